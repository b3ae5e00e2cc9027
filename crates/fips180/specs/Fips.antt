-- SHA-1 as FIPS 180-4 defines it, over lists of octets and words of 32 bits.
use Rattle.std.specs.Prelude.{ℕ, zero, suc, ◌+◌, ◌-◌, ◌*◌, ◌/◌, ◌%◌, ◌^◌, cond, List, [], ◌∷◌, ◌++◌, ltb, length, get_or, replicate}
use Rattle.std.specs.Int.Bits.{bit_and, bit_or, bit_xor}
use Rattle.fips180.specs.declared.State.{State}

-- §3.2: ROTL^n(x), the rotation of a word to the left by n places
abbrev pub rotl : ℕ → ℕ → ℕ
rotl n x = bit_or (x * 2 ^ n % 2 ^ 32) (x / 2 ^ (32 - n))

-- §4.1.1: Ch, Parity and Maj; the complement of a word x is 2^32 - 1 - x
abbrev pub ch : ℕ → ℕ → ℕ → ℕ
ch x y z = bit_xor (bit_and x y) (bit_and ((2 ^ 32 - 1) - x) z)

abbrev pub parity : ℕ → ℕ → ℕ → ℕ
parity x y z = bit_xor (bit_xor x y) z

abbrev pub maj : ℕ → ℕ → ℕ → ℕ
maj x y z = bit_xor (bit_xor (bit_and x y) (bit_and x z)) (bit_and y z)

-- §4.1.1: f_t
unfoldable pub f : ℕ → ℕ → ℕ → ℕ → ℕ
f t x y z = cond (ltb t 20) (ch x y z) (cond (ltb t 40) (parity x y z) (cond (ltb t 60) (maj x y z) (parity x y z)))

-- §4.2.1: K_t
unfoldable pub K : ℕ → ℕ
K t = cond (ltb t 20) 0x5a827999 (cond (ltb t 40) 0x6ed9eba1 (cond (ltb t 60) 0x8f1bbcdc 0xca62c1d6))

-- §3.1: the k low octets of x, the highest first
unfoldable pub big_endian : ℕ → ℕ → List ℕ
big_endian zero x = []
big_endian (suc k) x = x / 2 ^ (8 * k) % 256 ∷ big_endian k x

-- §5.1.1: the number of zero octets between the octet 0x80 and the length, for a message of n octets
unfoldable pub zeros : ℕ → ℕ
zeros n = (119 - n % 64) % 64

-- §5.1.1: the padded message. FIPS 180-4 defines it, and the digest, for messages of fewer than 2^64 bits (§6.1). For
-- longer ones, which no slice that fits a machine's memory is, the definition goes on with the length's low 64 bits.
unfoldable pub pad : List ℕ → List ℕ
pad m = m ++ (0x80 ∷ (replicate (zeros (length m)) 0 ++ big_endian 8 (8 * length m)))

-- §5.2.1: N, the number of blocks of the padded message, for a message of n octets
abbrev pub block_count : ℕ → ℕ
block_count n = (n + 8) / 64 + 1

-- §5.2.1: the words of the padded message, 16 to a block
abbrev pub word_at : List ℕ → ℕ → ℕ
word_at p j = ((get_or p (4 * j) 0 * 256 + get_or p (4 * j + 1) 0) * 256 + get_or p (4 * j + 2) 0) * 256 + get_or p (4 * j + 3) 0

-- §6.1.2, step 1: W_t of block i, where w has the words before it; blocks are counted from 0
unfoldable pub next_word : List ℕ → ℕ → List ℕ → ℕ → ℕ
next_word p i w t =
    cond (ltb t 16) (word_at p (16 * i + t))
    (rotl 1 (bit_xor (bit_xor (bit_xor (get_or w (t - 3) 0) (get_or w (t - 8) 0)) (get_or w (t - 14) 0)) (get_or w (t - 16) 0)))

-- §6.1.2, step 1: the first t words of the message schedule of block i
unfoldable pub schedule : List ℕ → ℕ → ℕ → List ℕ
schedule p i zero = []
schedule p i (suc t) = schedule p i t ++ (next_word p i (schedule p i t) t ∷ [])

-- §6.1.2, step 3: the working variables after step t, where w is W_t
unfoldable pub step : ℕ → ℕ → State → State
step t w s =
    record {
      a = (rotl 5 s.a + f t s.b s.c s.d + s.e + K t + w) % 2 ^ 32;
      b = s.a;
      c = rotl 30 s.b;
      d = s.c;
      e = s.d;
    }

-- §6.1.2, step 3: the working variables after the first t steps
unfoldable pub steps : List ℕ → ℕ → State → State
steps w zero s = s
steps w (suc t) s = step t (get_or w t 0) (steps w t s)

-- §6.1.2, step 4: the sums of the hash value before the block and the working variables
unfoldable pub sums : State → State → State
sums s r =
    record {
      a = (s.a + r.a) % 2 ^ 32;
      b = (s.b + r.b) % 2 ^ 32;
      c = (s.c + r.c) % 2 ^ 32;
      d = (s.d + r.d) % 2 ^ 32;
      e = (s.e + r.e) % 2 ^ 32;
    }

-- §6.1.2: the hash value after block i, from the one before it
unfoldable pub block : List ℕ → ℕ → State → State
block p i s = sums s (steps (schedule p i 80) 80 s)

-- §5.3.1: H(0)
abbrev pub initial : State
initial = record { a = 0x67452301; b = 0xefcdab89; c = 0x98badcfe; d = 0x10325476; e = 0xc3d2e1f0 }

-- §6.1.2: H(i), the hash value after i blocks
unfoldable pub blocks : List ℕ → ℕ → State
blocks p zero = initial
blocks p (suc i) = block p i (blocks p i)

-- §6.1.2: H(N), the hash value of a message
unfoldable pub hash : List ℕ → State
hash m = blocks (pad m) (length (pad m) / 64)

-- §6.1.2: H0‖H1‖H2‖H3‖H4, the 20 octets of a hash value
unfoldable pub octets : State → List ℕ
octets s = big_endian 4 s.a ++ big_endian 4 s.b ++ big_endian 4 s.c ++ big_endian 4 s.d ++ big_endian 4 s.e

-- §6.1.2: the message digest
unfoldable pub digest : List ℕ → List ℕ
digest m = octets (hash m)
