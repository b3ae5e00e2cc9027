-- Laws of a run of numbers: one turn of each loop over it, and its ends.
use Prim.Native.Nat.{ℕ, zero, suc, ◌+◌, ◌-◌, ◌≤◌, ◌<◌}
use mathlib.Core.Path.{◌≡◌, refl, ap}
use mathlib.Core.List.{List}
use native.Mathlib.Numerals.{add-one}
use native.Mathlib.Omega.{arith}
use borrow.Author.Tests.{eq-eqb, ne_eqb}
use lib.ListN.{length, set}
use lib.Seq.{sets}
use Rattle.text_numbers.specs.Numbers.{count_from, number_at, numbers_at}
use Rattle.text_numbers.specs.Steps.{got}

-- one turn of the loop that counts, and its four ends
pub count_none : (left : ℕ) (line : List ℕ) (from at n : ℕ) → left ≤ 0 → count_from left line from at n ≡ got 2 from n 0 0 0 at
unfolding count_from
count_none zero line from at n h = refl
count_none (suc k) line from at n h = absurd (omega arith)

pub count_turn : (left : ℕ) (line : List ℕ) (from at n : ℕ) → 0 < left → (number_at line at).fault ≡ 0
    → count_from left line from at n ≡ count_from (left - 1) line from (number_at line at).next (n + 1)
unfolding count_from
count_turn zero line from at n h f = absurd (omega arith)
count_turn (suc k) line from at n h f =
    let one : suc k - 1 ≡ k = omega arith in
    simp (eq-eqb _ _ f, one)

pub count_fault : (left : ℕ) (line : List ℕ) (from at n : ℕ) → 0 < left → ((number_at line at).fault ≡ 0 → ⊥) → ((number_at line at).fault ≡ 1 → ⊥)
    → count_from left line from at n ≡ number_at line at
unfolding count_from
count_fault zero line from at n h f g = absurd (omega arith)
count_fault (suc k) line from at n h f g = simp (ne_eqb _ _ f, ne_eqb _ _ g)

pub count_empty : (left : ℕ) (line : List ℕ) (from at n : ℕ) → 0 < left → (number_at line at).fault ≡ 1 → n ≡ 0 → count_from left line from at n ≡ number_at line at
unfolding count_from
count_empty zero line from at n h f g = absurd (omega arith)
count_empty (suc k) line from at n h f g = simp (f, eq-eqb _ _ g)

pub count_done : (left : ℕ) (line : List ℕ) (from at n : ℕ) → 0 < left → (number_at line at).fault ≡ 1 → (n ≡ 0 → ⊥)
    → count_from left line from at n ≡ got 2 from n 0 0 0 (number_at line at).next
unfolding count_from
count_done zero line from at n h f g = absurd (omega arith)
count_done (suc k) line from at n h f g = simp (f, ne_eqb _ _ g)

-- so many words give so many numbers
pub numbers_length : (k : ℕ) (line : List ℕ) (at : ℕ) → length (numbers_at k line at) ≡ k
unfolding numbers_at
numbers_length zero line at = refl
numbers_length (suc k) line at = ap suc (numbers_length k line (number_at line at).next)

-- one turn of the loop that puts numbers into a list, and its end
pub numbers_turn : (left : ℕ) (line list after : List ℕ) (place i : ℕ) → 0 < left → after ≡ set list i (number_at line place).a
    → sets list i (numbers_at left line place) ≡ sets after (i + 1) (numbers_at (left - 1) line (number_at line place).next)
unfolding numbers_at
numbers_turn zero line list after place i h e = absurd (omega arith)
numbers_turn (suc k) line list after place i h e =
    let one : suc k - 1 ≡ k = omega arith in
    rw (e, one, add-one)

pub numbers_end : (left : ℕ) (line list : List ℕ) (place i : ℕ) → left ≤ 0 → sets list i (numbers_at left line place) ≡ list
unfolding numbers_at
numbers_end zero line list place i h = refl
numbers_end (suc k) line list place i h = absurd (omega arith)
