-- What stands at each index of a padded message, and how long that is.
use Prim.Native.Nat.{ℕ, suc, ◌+◌, ◌-◌, ◌*◌, ◌/◌, ◌%◌, ◌^◌, ◌≤◌, ◌<◌}
use mathlib.Core.Path.{◌≡◌, sym, ap, ◌∙◌}
use mathlib.Core.List.{List, ◌∷◌, ◌++◌, append_assoc}
use native.Mathlib.Omega.{arith}
use lib.ListN.{length, get_or, replicate, length-append, length-replicate, get_or-replicate, get_or-append}
use lib.Pow.{field, mod-mod-pow}
use lib.Seq.{get_or-append-add, get_or-append_seam}
use Rattle.fips180.proofs.BigEndian.{big_endian_length, big_endian_at}
use Rattle.fips180.specs.Fips.{zeros, big_endian, pad, block_count}

-- FIPS 180-4, §5.1.1, asks for the least k with n + 1 + k ≡ 56 modulo 64, here in octets: `zeros n` is that k
pub zeros_right : (n : ℕ) → (n + 1 + zeros n) % 64 ≡ 56
unfolding zeros
zeros_right n = omega arith

pub zeros_least : (n k : ℕ) → (n + 1 + k) % 64 ≡ 56 → zeros n ≤ k
unfolding zeros
zeros_least n k e = omega arith

-- where the length stands in the padded message of n octets
abbrev length_at : ℕ → ℕ
length_at n = 64 * ((n + 8) / 64) + 56

zeros_end : (n : ℕ) → n + 1 + zeros n ≡ length_at n
unfolding zeros
zeros_end n = omega arith

-- the octets of the length do not ask for more than the length's 64 low bits
pub length_octet : (n s : ℕ) → s ≤ 56 → n * 2 ^ 3 % 2 ^ 64 / 2 ^ s % 256 ≡ 8 * n / 2 ^ s % 256
length_octet n s h =
    let bits : n * 2 ^ 3 ≡ 8 * n = omega arith in
    let width : 64 ≡ 56 - s + 8 + s = omega arith in
    ap (λ (x : ℕ). x % 2 ^ 64 / 2 ^ s % 256) bits
    ∙ ap (λ (k : ℕ). 8 * n % 2 ^ k / 2 ^ s % 256) width
    ∙ ap (λ (x : ℕ). x % 256) (field (8 * n) (56 - s + 8) s)
    ∙ mod-mod-pow (8 * n / 2 ^ s) (56 - s) 8

get_d_append_past : (xs ys : List ℕ) (i : ℕ) → length xs ≤ i → get_or (xs ++ ys) i 0 ≡ get_or ys (i - length xs) 0
get_d_append_past xs ys i h =
    let e : i ≡ length xs + (i - length xs) = omega arith in
    ap (λ (k : ℕ). get_or (xs ++ ys) k 0) e ∙ get_or-append-add xs ys (i - length xs) 0

-- the padded message before the length
front : List ℕ → List ℕ
front m = m ++ (0x80 ∷ replicate (zeros (length m)) 0)

front_length : (m : List ℕ) → length (front m) ≡ length_at (length m)
unfolding front
front_length m = simp (length-append, length-replicate) (omega (arith, zeros_end (length m)))

pad_front : (m : List ℕ) → pad m ≡ front m ++ big_endian 8 (8 * length m)
unfolding front pad
pad_front m = sym (append_assoc m (0x80 ∷ replicate (zeros (length m)) 0) (big_endian 8 (8 * length m)))

pub pad_length : (m : List ℕ) → length (pad m) ≡ 64 * block_count (length m)
pad_length m =
    ap length (pad_front m) ∙ length-append (front m) (big_endian 8 (8 * length m))
    ∙ omega (arith, front_length m, big_endian_length 8 (8 * length m))

pub pad-blocks : (m : List ℕ) → length (pad m) / 64 ≡ block_count (length m)
pad-blocks m = omega (arith, pad_length m)

pad_message : (m : List ℕ) (i : ℕ) → i < length m → get_or (pad m) i 0 ≡ get_or m i 0
unfolding pad
pad_message m i h = get_or-append m _ 0 i h

pad_mark : (m : List ℕ) (i : ℕ) → i ≡ length m → get_or (pad m) i 0 ≡ 0x80
unfolding pad
pad_mark m i e = ap (λ (k : ℕ). get_or (pad m) k 0) e ∙ get_or-append_seam m 0x80 _ 0

pad_zero : (m : List ℕ) (i : ℕ) → length m < i → i < length_at (length m) → get_or (pad m) i 0 ≡ 0
unfolding front
pad_zero m i h l =
    let e : i - length m ≡ suc (i - length m - 1) = omega arith in
    ap (λ (p : List ℕ). get_or p i 0) (pad_front m)
    ∙ get_or-append (front m) (big_endian 8 (8 * length m)) 0 i (omega (arith, front_length m))
    ∙ get_d_append_past m (0x80 ∷ replicate (zeros (length m)) 0) i (omega arith)
    ∙ ap (λ (k : ℕ). get_or (0x80 ∷ replicate (zeros (length m)) 0) k 0) e
    ∙ get_or-replicate (zeros (length m)) (i - length m - 1) 0 0 (omega (arith, zeros_end (length m)))

pad_size : (m : List ℕ) (i : ℕ) → length_at (length m) ≤ i → i < 64 * block_count (length m)
    → get_or (pad m) i 0 ≡ 8 * length m / 2 ^ (56 - 8 * (i - length_at (length m))) % 256
pad_size m i h l =
    let e : length (front m) ≡ length_at (length m) = front_length m in
    ap (λ (p : List ℕ). get_or p i 0) (pad_front m)
    ∙ get_d_append_past (front m) (big_endian 8 (8 * length m)) i (omega arith)
    ∙ big_endian_at 8 (8 * length m) (i - length (front m)) (omega arith)
    ∙ ap (λ (k : ℕ). 8 * length m / 2 ^ k % 256) (omega arith)

-- octet i of the padded message, where the message is in two parts
module _ (h t : List ℕ) (i : ℕ) where
  pub at_head : i < length h → get_or h i 0 ≡ get_or (pad (h ++ t)) i 0
  at_head l = sym (pad_message (h ++ t) i (omega (arith, length-append h t)) ∙ get_or-append h t 0 i l)

  pub at_tail : length h ≤ i → i < length h + length t → get_or t (i - length h) 0 ≡ get_or (pad (h ++ t)) i 0
  at_tail g l = sym (pad_message (h ++ t) i (omega (arith, length-append h t)) ∙ get_d_append_past h t i g)

  pub at_mark : i ≡ length h + length t → 0x80 ≡ get_or (pad (h ++ t)) i 0
  at_mark e = sym (pad_mark (h ++ t) i (e ∙ sym (length-append h t)))

  pub at_zero : length h + length t < i → i < length_at (length h + length t) → 0 ≡ get_or (pad (h ++ t)) i 0
  at_zero g l = sym (pad_zero (h ++ t) i (omega (arith, length-append h t)) (omega (arith, length-append h t)))

  pub at_size : length_at (length h + length t) ≤ i → i < 64 * block_count (length h + length t)
      → 8 * (length h + length t) / 2 ^ (56 - 8 * (i - length_at (length h + length t))) % 256 ≡ get_or (pad (h ++ t)) i 0
  at_size g l = rw (← length-append h t)
      (sym (pad_size (h ++ t) i (omega (arith, length-append h t)) (omega (arith, length-append h t))))
