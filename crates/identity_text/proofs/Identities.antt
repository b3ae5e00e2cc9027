-- Laws of identities as text: a group behind its dash, and a ULID from its two words.
use Prim.Native.Nat.{ℕ, ◌+◌, ◌*◌, ◌/◌, ◌%◌, ◌<◌}
use mathlib.Core.Path.{◌≡◌, sym, ap, ◌∙◌}
use mathlib.Core.List.{List, [], ◌∷◌, ◌++◌}
use native.Mathlib.Numerals.{add-one}
use native.Mathlib.Omega.{arith}
use lib.ListN.{set}
use Rattle.text_buffer.specs.Digits.{digits}
use Rattle.text_buffer.specs.Writing.{Put}
use Rattle.text_buffer.proofs.Digits.{digits_split, digits_above}
use Rattle.identity_text.specs.Identities.{hex_letter, group_of, crockford, ulid_of}

pub group_put : (l m n : List ℕ) (at k x next : ℕ) → m ≡ set l at 45 → Put m (at + 1) (digits hex_letter 16 k x) n next → Put l at (group_of k x) n next
unfolding group_of
group_put l m n at k x next e p =
    record {
      bytes = p.bytes ∙ rw (e, add-one);
      place = omega (arith, p.place);
    }

-- one digit of two numbers that end alike
digit_alike : (letter : ℕ → ℕ) (x y : ℕ) → x % 32 ≡ y % 32 → digits letter 32 1 x ≡ digits letter 32 1 y
unfolding digits
digit_alike letter x y e = ap (λ (d : ℕ). letter d ∷ []) e

-- a ULID: 13 digits of the high word without its last bit, one that has bits of both, 12 of the low word
pub ulid_parts : (high low : ℕ) → low < 18446744073709551616
    → digits crockford 32 13 (high / 2) ++ digits crockford 32 1 (high % 2 * 16 + low / 1152921504606846976) ++ digits crockford 32 12 low ≡ ulid_of high low
unfolding ulid_of
ulid_parts high low fits =
    let whole = high * 18446744073709551616 + low in
    let upper = high * 16 + low / 1152921504606846976 in
    let above : whole / 1152921504606846976 ≡ upper = omega arith in
    let half : upper / 32 ≡ high / 2 = omega arith in
    let mixed : upper % 32 ≡ (high % 2 * 16 + low / 1152921504606846976) % 32 = omega arith in
    let below : high * 16 * 1152921504606846976 + low ≡ whole = omega arith in
    sym
    (digits_split crockford 32 14 12 whole
    ∙ ap (λ (x : ℕ). digits crockford 32 14 x ++ digits crockford 32 12 whole) above
    ∙ ap (λ (l : List ℕ). l ++ digits crockford 32 12 whole)
    (digits_split crockford 32 13 1 upper ∙ ap (λ (x : ℕ). digits crockford 32 13 x ++ digits crockford 32 1 upper) half
    ∙ ap (λ (l : List ℕ). digits crockford 32 13 (high / 2) ++ l) (digit_alike crockford upper (high % 2 * 16 + low / 1152921504606846976) mixed))
    ∙ ap (λ (l : List ℕ). digits crockford 32 13 (high / 2) ++ digits crockford 32 1 (high % 2 * 16 + low / 1152921504606846976) ++ l)
    (ap (digits crockford 32 12) (sym below) ∙ digits_above crockford 32 12 (high * 16) low (omega arith)))
