-- The words that a UUID's octets make.
use Prim.Native.Nat.{ℕ, zero, suc, ◌+◌, ◌*◌, ◌/◌, ◌%◌, ◌^◌, ◌<◌}
use mathlib.Core.Path.{◌≡◌, sym, ap, ap₂, ◌∙◌}
use mathlib.Core.List.{[], ◌∷◌}
use native.Mathlib.Nat.{add_assoc, mod-eq_of_lt}
use native.Mathlib.Omega.{arith}
use lib.ListN.{take, drop}
use lib.Pow.{mod-pow-add}
use Rattle.fips180.proofs.BigEndian.{big_endian_length}
use Rattle.fips180.specs.Fips.{big_endian, octets}
use Rattle.fips180.specs.declared.State.{State}
use Rattle.uuid_v5.specs.Rfc9562.{octets_of, number, uuid_of, with_version, with_variant, stamped}
use Rattle.uuid_v5.specs.declared.Uuid.{Uuid}

number_mod : (k x : ℕ) → number (big_endian k x) ≡ x % 2 ^ (8 * k)
unfolding number big_endian
number_mod zero x = omega arith
number_mod (suc k) x =
    let width : 8 + 8 * k ≡ 8 * suc k = omega arith in
    ap₂ (λ (n r : ℕ). x / 2 ^ (8 * k) % 256 * 2 ^ (8 * n) + r) (big_endian_length k x) (number_mod k x)
    ∙ sym (mod-pow-add x 8 (8 * k))
    ∙ ap (λ (n : ℕ). x % 2 ^ n) width

pub number-big_endian : (k x : ℕ) → x < 2 ^ (8 * k) → number (big_endian k x) ≡ x
number-big_endian k x h = number_mod k x ∙ mod-eq_of_lt h

-- eight octets make two words of four
number_halves : (a b c d e f g h : ℕ)
    → number (a ∷ b ∷ c ∷ d ∷ e ∷ f ∷ g ∷ h ∷ []) ≡ number (a ∷ b ∷ c ∷ d ∷ []) * 2 ^ 32 + number (e ∷ f ∷ g ∷ h ∷ [])
unfolding number
number_halves a b c d e f g h = omega arith

-- the words are the numbers that they were written from
pub uuid_of-octets_of : (u : Uuid) → u.high < 2 ^ 64 → u.low < 2 ^ 64 → uuid_of (octets_of u) ≡ u
unfolding uuid_of octets_of big_endian
uuid_of-octets_of u h l =
    let of_words : ℕ → ℕ → Uuid = λ high low. record { high = high; low = low } in
    ap₂ of_words (number-big_endian 8 u.high h) (number-big_endian 8 u.low l)

-- four octets, two by two
number_pairs : (a b c d : ℕ) → number (a ∷ b ∷ c ∷ d ∷ []) ≡ a * 2 ^ 24 + b * 2 ^ 16 + (c * 2 ^ 8 + d)
unfolding number
number_pairs a b c d = omega arith

number_version : (x : ℕ) → x < 2 ^ 32
    → number (x / 2 ^ 24 % 256 ∷ x / 2 ^ 16 % 256 ∷ (0x5 * 16 + x / 2 ^ 8 % 256 % 16) ∷ x / 2 ^ 0 % 256 ∷ [])
    ≡ x / 2 ^ 16 * 2 ^ 16 + (0x5000 + x % 2 ^ 12)
number_version x h =
    let first : x / 2 ^ 24 % 256 * 2 ^ 24 + x / 2 ^ 16 % 256 * 2 ^ 16 ≡ x / 2 ^ 16 * 2 ^ 16 = omega arith in
    let second : (0x5 * 16 + x / 2 ^ 8 % 256 % 16) * 2 ^ 8 + x / 2 ^ 0 % 256 ≡ 0x5000 + x % 2 ^ 12 = omega arith in
    number_pairs _ _ _ _ ∙ ap₂ (λ (p q : ℕ). p + q) first second

number_variant : (x : ℕ) → x < 2 ^ 32
    → number ((0x2 * 64 + x / 2 ^ 24 % 256 % 64) ∷ x / 2 ^ 16 % 256 ∷ x / 2 ^ 8 % 256 ∷ x / 2 ^ 0 % 256 ∷ [])
    ≡ 2 ^ 31 + x % 2 ^ 30
number_variant x h =
    let first :
    (0x2 * 64 + x / 2 ^ 24 % 256 % 64) * 2 ^ 24 + x / 2 ^ 16 % 256 * 2 ^ 16 ≡ 2 ^ 31 + x / 2 ^ 16 % 2 ^ 14 * 2 ^ 16 = omega arith in
    let second : x / 2 ^ 8 % 256 * 2 ^ 8 + x / 2 ^ 0 % 256 ≡ x % 2 ^ 16 = omega arith in
    number_pairs _ _ _ _ ∙ ap₂ (λ (p q : ℕ). p + q) first second ∙ add_assoc _ _ _
    ∙ ap (λ (n : ℕ). 2 ^ 31 + n) (sym (mod-pow-add x 14 16))

-- the words of the octets that a hash value gives, from its words
module _ (s : State) where
  pub stamped_high : s.a < 2 ^ 32 → s.b < 2 ^ 32
      → number (take 8 (stamped (octets s))) ≡ s.a * 2 ^ 32 + (s.b / 2 ^ 16 * 2 ^ 16 + (0x5000 + s.b % 2 ^ 12))
  unfolding stamped with_version with_variant octets big_endian
  stamped_high ha hb =
      number_halves _ _ _ _ _ _ _ _
      ∙ ap₂ (λ (p q : ℕ). p * 2 ^ 32 + q) (number-big_endian 4 s.a ha) (number_version s.b hb)

  pub stamped_low : s.c < 2 ^ 32 → s.d < 2 ^ 32
      → number (drop 8 (stamped (octets s))) ≡ (2 ^ 31 + s.c % 2 ^ 30) * 2 ^ 32 + s.d
  unfolding stamped with_version with_variant octets big_endian
  stamped_low hc hd =
      number_halves _ _ _ _ _ _ _ _
      ∙ ap₂ (λ (p q : ℕ). p * 2 ^ 32 + q) (number_variant s.c hc) (number-big_endian 4 s.d hd)
