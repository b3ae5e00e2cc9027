-- Laws of decimal numbers: one turn of the loop over digits, and where a word's step goes on.
use Prim.Native.Nat.{ℕ, suc, ◌+◌, ◌≤◌, ◌<◌}
use mathlib.Core.Path.{◌≡◌, refl, sym, ap, ◌∙◌}
use mathlib.Core.Bool.{Bool, true, false, cond}
use mathlib.Core.List.{List, [], ◌∷◌}
use native.Mathlib.Numerals.{add-one}
use lib.Dec.{eqb}
use lib.ListN.{length, drop, get_or, drop_of_length-le}
use lib.Seq.{drop-cons}
use Rattle.text_words.specs.Words.{between}
use Rattle.text_numbers.specs.Numbers.{with_digit, number_from, number_of, of_number, number_between}
use Rattle.text_numbers.specs.Steps.{bad, missing}
use Rattle.std.specs.Prelude.{Result, Ok, Err}
use Rattle.text_numbers.specs.declared.Unread.{Unread}
use Rattle.text_numbers.specs.declared.Step.{Step}

-- one turn of the loop over a number, a fault, and the end
pub number_turn : (n m : ℕ) (l : List ℕ) (i : ℕ) → i < length l → Ok m ≡ with_digit n (get_or l i 0) → number_from (Ok n) (drop i l) ≡ number_from (Ok m) (drop (i + 1) l)
unfolding number_from
number_turn n m l i h e = rw (add-one, drop-cons l i 0 h) (ap (λ (s : Result ℕ Unread). number_from s (drop (suc i) l)) (sym e))

number_spoilt : (why : Unread) (l : List ℕ) → number_from (Err why) l ≡ Err why
unfolding number_from
number_spoilt why [] = refl
number_spoilt why (b ∷ l) = number_spoilt why l

pub number_fails : (n : ℕ) (why : Unread) (l : List ℕ) (i : ℕ) → i < length l → Err why ≡ with_digit n (get_or l i 0) → number_from (Ok n) (drop i l) ≡ Err why
unfolding number_from
number_fails n why l i h e =
    rw (drop-cons l i 0 h) (ap (λ (s : Result ℕ Unread). number_from s (drop (suc i) l)) (sym e) ∙ number_spoilt why (drop (suc i) l))

pub number_end : (n : ℕ) (l : List ℕ) (i : ℕ) → length l ≤ i → number_from (Ok n) (drop i l) ≡ Ok n
unfolding number_from
number_end n l i h = rw (drop_of_length-le l {i = i} h)

-- the place behind a word is its end, whatever it gave
pub cond_next : (b : Bool) (x y : Step) (e : ℕ) → x.next ≡ e → y.next ≡ e → (cond b x y).next ≡ e
cond_next true x y e p q = p
cond_next false x y e p q = q

of_number_next : (n : Result ℕ Unread) (s e : ℕ) → (of_number n s e).next ≡ e
of_number_next (Ok n) s e = refl
of_number_next (Err why) s e = refl

pub number_next : (line : List ℕ) (s e : ℕ) → (number_between line s e).next ≡ e
unfolding number_between
number_next line s e =
    cond_next (eqb s e) (bad missing (s + 1) e) (of_number (number_of (between line s e)) s e) e refl (of_number_next (number_of (between line s e)) s e)
