-- Tests in a row, as early returns and the turns of a loop make them.
use Prim.Native.Nat.{ℕ, zero, suc, ◌+◌, ◌-◌, ◌≤◌, ◌<◌}
use native.Mathlib.Omega.{arith}
use native.Mathlib.Numerals.{add-one}
use mathlib.Core.Path.{◌≡◌, refl, sym, ◌∙◌}
use mathlib.Core.Bool.{Bool, true, false, ◌&&◌}
use mathlib.Core.List.{[], ◌∷◌}
use borrow.Author.Tests.{ltb-true, ltb-false}
use borrow.Table.Steps.{cases}
use lib.Dec.{ltb}
use Rattle.book.specs.Lists.{every, rising, All}

------------------------------------------------------------------------
-- One test after another

-- the first test fails
pub and_fails : (a b : Bool) → a ≡ false → false ≡ (a && b)
and_fails a b e = rw e

-- the first test is passed, and the answer is that of the others
pub and_passes : (r a b : Bool) → a ≡ true → r ≡ b → r ≡ (a && b)
and_passes r a b e q = rw e q

-- two tests agree where each gives the other
pub bool_same : (a b : Bool) → (a ≡ true → b ≡ true) → (b ≡ true → a ≡ true) → a ≡ b
bool_same true b f g = sym (f refl)
bool_same false true f g = g refl
bool_same false false f g = refl

------------------------------------------------------------------------
-- A test of each of m numbers from i on

rising_step : (i m : ℕ) → 0 < m → rising i m ≡ i ∷ rising (i + 1) (m - 1)
unfolding rising
rising_step i zero h = absurd (omega arith)
rising_step i (suc m) h = let e : suc m - 1 ≡ m = omega arith in rw (e, add-one)

rising_none : (i m : ℕ) → m ≤ 0 → rising i m ≡ []
unfolding rising
rising_none i zero h = refl
rising_none i (suc m) h = absurd (omega arith)

module _ (P : ℕ → Bool) (whole : Bool) (i m : ℕ) (inv : whole ≡ every P (rising i m)) where
  pub every_end : m ≤ 0 → true ≡ whole
  unfolding every
  every_end h = sym (inv ∙ rw (rising_none i m h))

  every-step : 0 < m → whole ≡ (P i && every P (rising (i + 1) (m - 1)))
  unfolding every
  every-step h = inv ∙ rw (rising_step i m h)

  pub every_no : 0 < m → P i ≡ false → false ≡ whole
  every_no h e = sym (every-step h ∙ rw e)

  pub every_yes : 0 < m → P i ≡ true → whole ≡ every P (rising (i + 1) (m - 1))
  every_yes h e = every-step h ∙ rw e

------------------------------------------------------------------------
-- What holds of numbers in a row

pub rising_at : (P : ℕ → Type 0) (i m : ℕ) → All P (rising i m) → (j : ℕ) → i ≤ j → j < i + m → P j
unfolding rising
rising_at P i zero h j low high = absurd (omega arith)
rising_at P i (suc m) h j low high = cases (ltb i j)
    (λ e. rising_at P (suc i) m h.1 j (omega (arith, ltb-true i j e)) (omega arith))
    (λ e. let q : j ≡ i = omega (arith, ltb-false i j e) in rw q h.0)

pub rising_all : (P : ℕ → Type 0) (i m : ℕ) → ((j : ℕ) → i ≤ j → j < i + m → P j) → All P (rising i m)
unfolding rising
rising_all P i zero h = tt
rising_all P i (suc m) h =
    (h i (omega arith) (omega arith), rising_all P (suc i) m (λ j low high. h j (omega arith) (omega arith)))
