-- Laws of texts by a pattern: one turn of the loop over the two, its end, and where a word's step goes on.
use Prim.Native.Nat.{ℕ, zero, suc, ◌+◌, ◌-◌, ◌*◌, ◌/◌, ◌%◌, ◌^◌, ◌≤◌, ◌<◌}
use mathlib.Core.Path.{◌≡◌, refl, sym, ap, ◌∙◌}
use mathlib.Core.List.{List, [], ◌∷◌}
use native.Mathlib.Nat.{mul-le-mul_right, mod-lt, div-lt_iff_lt-mul}
use native.Mathlib.Numerals.{add-one}
use native.Mathlib.Omega.{arith}
use Rattle.std.specs.Prelude.{Option, Some, None}
use lib.Dec.{eqb}
use lib.ListN.{length, drop, get_or, drop_of_length-le}
use lib.Seq.{drop-cons}
use Rattle.text_words.specs.Words.{between}
use Rattle.text_numbers.proofs.Digits.{cond_next, number_next}
use Rattle.text_numbers.specs.Numbers.{number_between}
use Rattle.text_numbers.specs.Steps.{bad, got, missing}
use Rattle.text_numbers.specs.declared.Step.{Step}
use Rattle.text_identities.specs.Identities.{most_of, with_character, spelled_from, spelled_by, of_spelled, patterned, numbered, kindless, identity_between, uuid_between, uuid_pattern, ulid_pattern, not_uuid, not_ulid}
use Rattle.text_identities.specs.declared.Spelled.{Spelled}

-- the bits that go from the low word to the high one have room there
digits_fit : (q d base top : ℕ) → top * base ≡ 2 ^ 64 → q < top → d < base → q * base + d < 2 ^ 64
digits_fit q d base top e h k =
    let room : suc q * base ≤ top * base = mul-le-mul_right base h in
    omega (arith, room)

top_positive : (base top : ℕ) → top * base ≡ 2 ^ 64 → 0 < top
top_positive base zero e = absurd (omega arith)
top_positive base (suc top) e = omega arith

pub carry_fits : (high low base top : ℕ) → top * base ≡ 2 ^ 64 → low < 2 ^ 64 → high % top * base + low / top < 2 ^ 64
carry_fits high low base top e h =
    let pos = top_positive base top e in
    let below : low < base * top = omega (arith, e) in
    digits_fit (high % top) (low / top) base top e (mod-lt high pos) ((div-lt_iff_lt-mul pos).1 below)

pub digit_fits : (low base top d : ℕ) → top * base ≡ 2 ^ 64 → d < base → low % top * base + d < 2 ^ 64
digit_fits low base top d e h = digits_fit (low % top) d base top e (mod-lt low (top_positive base top e)) h

-- what a pattern's 'f' lets pass has four bits
pub four_bits : (d m p : ℕ) → m ≡ most_of p → p ≡ 102 → d ≤ m → d < 16
unfolding most_of
four_bits d m p e f h =
    let g : m ≡ 15 = e ∙ rw f in
    omega arith

-- a turn of the loop over a pattern and a text, another character, and the end
pub spelled_turn : (n m : Spelled) (pattern text : List ℕ) (i : ℕ) → i < length pattern → i < length text → Some m ≡ with_character n (get_or pattern i 0) (get_or text i 0)
    → spelled_from (Some n) (drop i pattern) (drop i text) ≡ spelled_from (Some m) (drop (i + 1) pattern) (drop (i + 1) text)
unfolding spelled_from
spelled_turn n m pattern text i hp ht e =
    rw (add-one, drop-cons pattern i 0 hp, drop-cons text i 0 ht) (ap (λ (s : Option Spelled). spelled_from s (drop (suc i) pattern) (drop (suc i) text)) (sym e))

spelled_spoilt : (pattern text : List ℕ) → spelled_from None pattern text ≡ None
unfolding spelled_from
spelled_spoilt [] text = refl
spelled_spoilt (p ∷ pattern) [] = refl
spelled_spoilt (p ∷ pattern) (b ∷ text) = spelled_spoilt pattern text

pub spelled_fails : (n : Spelled) (pattern text : List ℕ) (i : ℕ) → i < length pattern → i < length text → None ≡ with_character n (get_or pattern i 0) (get_or text i 0)
    → spelled_from (Some n) (drop i pattern) (drop i text) ≡ None
unfolding spelled_from
spelled_fails n pattern text i hp ht e =
    rw (drop-cons pattern i 0 hp, drop-cons text i 0 ht)
    (ap (λ (s : Option Spelled). spelled_from s (drop (suc i) pattern) (drop (suc i) text)) (sym e) ∙ spelled_spoilt (drop (suc i) pattern) (drop (suc i) text))

spelled_empty : (n : Option Spelled) (pattern : List ℕ) → spelled_from n pattern [] ≡ n
unfolding spelled_from
spelled_empty n [] = refl
spelled_empty n (p ∷ pattern) = refl

pub spelled_end : (n : Spelled) (pattern text : List ℕ) (i : ℕ) → length text ≤ i → spelled_from (Some n) (drop i pattern) (drop i text) ≡ Some n
spelled_end n pattern text i h = rw (drop_of_length-le text {i = i} h) (spelled_empty (Some n) (drop i pattern))

-- the place behind a word is its end, whatever it gave
pub patterned_next : (pattern : List ℕ) (kind fault : ℕ) (line : List ℕ) (s e : ℕ) → (patterned pattern kind fault line s e).next ≡ e
unfolding patterned
patterned_next pattern kind fault line s e = by_text (spelled_by pattern (between line s e))
  where
    by_text : (n : Option Spelled) → (of_spelled n kind fault s e).next ≡ e
    by_text (Some n) = refl
    by_text None = refl

numbered_next : (s : Step) (e : ℕ) → s.next ≡ e → (numbered s).next ≡ e
numbered_next s e h = cond_next (eqb s.fault 0) (got 3 2 0 s.a 0 0 s.next) s e h h

kindless_next : (s : Step) (e : ℕ) → s.next ≡ e → (kindless s).next ≡ e
kindless_next s e h = cond_next (eqb s.fault 0) (got 2 s.b s.c 0 0 0 s.next) s e h h

pub identity_next : (line : List ℕ) (s e : ℕ) → (identity_between line s e).next ≡ e
unfolding identity_between
identity_next line s e =
    cond_next (eqb (e - s) 36) (patterned uuid_pattern 0 not_uuid line s e) _ e (patterned_next uuid_pattern 0 not_uuid line s e)
    (cond_next (eqb (e - s) 26) (patterned ulid_pattern 1 not_ulid line s e) (numbered (number_between line s e)) e (patterned_next ulid_pattern 1 not_ulid line s e) (numbered_next (number_between line s e) e (number_next line s e)))

pub uuid_next : (line : List ℕ) (s e : ℕ) → (uuid_between line s e).next ≡ e
unfolding uuid_between
uuid_next line s e =
    cond_next (eqb s e) (bad missing (s + 1) e) (kindless (patterned uuid_pattern 0 not_uuid line s e)) e refl (kindless_next (patterned uuid_pattern 0 not_uuid line s e) e (patterned_next uuid_pattern 0 not_uuid line s e))
