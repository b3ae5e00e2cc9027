-- Laws of the words of a line: one turn of a loop over its bytes, and its ends.
use Prim.Native.Nat.{ℕ, zero, suc, ◌+◌, ◌-◌, ◌≤◌, ◌<◌}
use mathlib.Core.Path.{◌≡◌, refl, sym, ap, ◌∙◌}
use mathlib.Core.Bool.{Bool, true, false, cond}
use mathlib.Core.List.{List, [], ◌∷◌}
use native.Mathlib.Numerals.{add-one}
use native.Mathlib.Omega.{arith}
use borrow.Author.Tests.{eq-eqb, eqb-true}
use lib.Dec.{eqb}
use lib.ListN.{length, take, drop, get_or, drop_of_length-le, length-drop}
use lib.Seq.{drop-cons, take_all}
use Rattle.std.specs.Prelude.{IsTrue, ◌↔◌}
use Rattle.text_words.specs.Words.{run, folded, same_text}

-- a run goes on, stops, or meets the end
pub run_on : (p : ℕ → Bool) (l : List ℕ) (i : ℕ) → i < length l → p (get_or l i 0) ≡ true → i + run p (drop i l) ≡ (i + 1) + run p (drop (i + 1) l)
unfolding run
run_on p l i h e =
    let d : run p (drop i l) ≡ suc (run p (drop (suc i) l)) = rw (drop-cons l i 0, e) in
    rw add-one (omega (arith, d))

pub run_stop : (p : ℕ → Bool) (l : List ℕ) (i : ℕ) → i < length l → p (get_or l i 0) ≡ false → i + run p (drop i l) ≡ i
unfolding run
run_stop p l i h e =
    let d : run p (drop i l) ≡ 0 = rw (drop-cons l i 0, e) in
    omega (arith, d)

pub run_end : (p : ℕ → Bool) (l : List ℕ) (i : ℕ) → length l ≤ i → i + run p (drop i l) ≡ i
unfolding run
run_end p l i h =
    let d : run p (drop i l) ≡ 0 = rw (drop_of_length-le l {i = i} h) in
    omega (arith, d)

-- what a slice to the end of a line has
pub rest_of : (l : List ℕ) (at : ℕ) → take (length l - at) (drop at l) ≡ drop at l
rest_of l at = take_all (length l - at) (drop at l) (rw length-drop (omega arith))

-- a run to the end of a line
pub run_whole : (p : ℕ → Bool) (line rest : List ℕ) (at k : ℕ) → at ≤ length line → rest ≡ drop at line → length rest ≤ k → k ≤ length rest → k + run p (drop k rest) ≡ run p rest → length line ≡ at + run p (drop at line)
run_whole p line rest at k h is ge le e =
    let r : k ≡ run p (drop at line) = sym (run_end p rest k ge) ∙ e ∙ ap (run p) is in
    let n : length rest ≡ length line - at = ap length is ∙ length-drop at line in
    omega arith

-- two texts of one length: the same letters, or a place where they differ; two of different lengths
same_letters : (a b : List ℕ) → length a ≡ length b → ((k : ℕ) → k < length a → folded (get_or a k 0) ≡ folded (get_or b k 0)) → same_text a b ≡ true
unfolding same_text
same_letters [] [] e same = refl
same_letters [] (y ∷ b) e same = absurd (omega arith)
same_letters (x ∷ a) [] e same = absurd (omega arith)
same_letters (x ∷ a) (y ∷ b) e same = simp (eq-eqb _ _ (same 0 (omega arith))) (same_letters a b (omega arith) (λ k h. same (suc k) (omega arith)))

both_true : (c r : Bool) → cond c r false ≡ true → (c ≡ true) × (r ≡ true)
both_true true r e = (refl, e)
both_true false r e = absurd (cc)

same_true : (a b : List ℕ) → same_text a b ≡ true → (k : ℕ) → k < length a → folded (get_or a k 0) ≡ folded (get_or b k 0)
unfolding same_text
same_true [] b t k h = absurd (omega arith)
same_true (x ∷ a) [] t k h = absurd (cc)
same_true (x ∷ a) (y ∷ b) t zero h = eqb-true _ _ (both_true (eqb (folded x) (folded y)) (same_text a b) t).0
same_true (x ∷ a) (y ∷ b) t (suc k) h = same_true a b (both_true (eqb (folded x) (folded y)) (same_text a b) t).1 k (omega arith)

-- a test that says that the letters are the same says that the texts are
pub same_decided : (a b : List ℕ) (r : Bool) → length a ≡ length b → (IsTrue r ↔ ((k : ℕ) → k < length a → k < length b → folded (get_or a k 0) ≡ folded (get_or b k 0))) → r ≡ same_text a b
same_decided a b r e d = both r (same_text a b) (λ t. same_letters a b e (λ k h. d.0 t k h (omega arith))) (λ t. d.1 (λ k h m. same_true a b t k h))
  where
    both : (r t : Bool) → (r ≡ true → t ≡ true) → (t ≡ true → r ≡ true) → r ≡ t
    both true t to from = sym (to refl)
    both false true to from = from refl
    both false false to from = refl

pub same_length : (a b : List ℕ) → (length a ≡ length b → ⊥) → same_text a b ≡ false
unfolding same_text
same_length [] [] ne = absurd (ne refl)
same_length [] (y ∷ b) ne = refl
same_length (x ∷ a) [] ne = refl
same_length (x ∷ a) (y ∷ b) ne = first (eqb (folded x) (folded y)) (same_text a b) (same_length a b (λ e. ne (ap suc e)))
  where
    first : (t r : Bool) → r ≡ false → cond t r false ≡ false
    first true r e = e
    first false r e = refl
