-- The words of an input: how many they are, and a part of them.
use Prim.Native.Nat.{ℕ, zero, suc, ◌+◌, ◌-◌, ◌*◌, ◌/◌, ◌%◌, ◌≤◌, ◌<◌}
use mathlib.Core.List.{List, [], ◌∷◌, ◌++◌}
use mathlib.Core.Path.{◌≡◌, refl, sym, ap, ◌∙◌}
use native.Mathlib.Nat.{le_of_suc-le-suc, not-suc-le-zero}
use native.Mathlib.Numerals.{add-one, unary_clauses}
use native.Mathlib.Omega.{arith}
use borrow.Author.Tests.{ne_eqb}
use borrow.Table.Steps.{cases}
use lib.Dec.{eqb}
use lib.ListN.{length, take, drop, set}
use lib.Seq.{take-suc-set}
use Rattle.forecast_input.specs.Input.{word_at, words_at, word_count, words_of}

pub words_at_length : (bytes : List ℕ) (i k : ℕ) → length (words_at bytes i k) ≡ k
unfolding words_at
words_at_length bytes i zero = refl
words_at_length bytes i (suc k) = ap suc (words_at_length bytes (suc i) k)

pub words_of_length : (bytes : List ℕ) → length (words_of bytes) ≡ word_count bytes
unfolding words_of
words_of_length bytes = words_at_length bytes 0 (word_count bytes)

pub words_at-take : (bytes : List ℕ) (i j k : ℕ) → j ≤ k → take j (words_at bytes i k) ≡ words_at bytes i j
unfolding words_at
words_at-take bytes i zero k h = refl
words_at-take bytes i (suc j) zero h = absurd (not-suc-le-zero h)
words_at-take bytes i (suc j) (suc k) h =
    ap (λ (r : List ℕ). word_at bytes i ∷ r) (words_at-take bytes (suc i) j k (le_of_suc-le-suc h))

pub words_at_drop : (bytes : List ℕ) (i j k : ℕ) → j ≤ k → drop j (words_at bytes i k) ≡ words_at bytes (i + j) (k - j)
unfolding words_at
words_at_drop bytes i zero k h = simp unary_clauses refl
words_at_drop bytes i (suc j) zero h = absurd (not-suc-le-zero h)
words_at_drop bytes i (suc j) (suc k) h =
    let here : suc i + j ≡ i + suc j = omega arith in
    let left : k - j ≡ suc k - suc j = omega arith in
    words_at_drop bytes (suc i) j k (le_of_suc-le-suc h)
    ∙ ap (λ (p : ℕ). words_at bytes p (k - j)) here ∙ ap (words_at bytes (i + suc j)) left

words_at_last : (bytes : List ℕ) (i k : ℕ) → words_at bytes i (suc k) ≡ words_at bytes i k ++ (word_at bytes (i + k) ∷ [])
unfolding words_at
words_at_last bytes i zero = simp unary_clauses refl
words_at_last bytes i (suc k) =
    let here : suc i + k ≡ i + suc k = omega arith in
    ap (λ (r : List ℕ). word_at bytes i ∷ r) (words_at_last bytes (suc i) k)
    ∙ ap (λ (p : ℕ). word_at bytes i ∷ (words_at bytes (suc i) k ++ (word_at bytes p ∷ []))) here

-- one word more is read
pub read_turn : (bytes : List ℕ) (i : ℕ) (w : List ℕ) (k x : ℕ) → k < length w → take k w ≡ words_at bytes i k
    → x ≡ word_at bytes (i + k)
    → take (k + 1) (set w k x) ≡ words_at bytes i (k + 1)
read_turn bytes i w k x h e n =
    rw add-one
    (take-suc-set w k x h ∙ rw (e, n) (sym (words_at_last bytes i k)))

------------------------------------------------------------------------
-- The count

pub count_whole : (bytes : List ℕ) → length bytes % 8 ≡ 0 → word_count bytes ≡ length bytes / 8
unfolding word_count
count_whole bytes e = rw e

pub count_none : (bytes : List ℕ) → (length bytes % 8 ≡ 0 → ⊥) → word_count bytes ≡ 0
unfolding word_count
count_none bytes h = rw (ne_eqb _ _ h)

-- the words that are counted are there
pub count_inside : (bytes : List ℕ) → 8 * word_count bytes ≤ length bytes
unfolding word_count
count_inside bytes = cases (eqb (length bytes % 8) 0) (λ e. rw e (omega arith)) (λ e. rw e (omega arith))
