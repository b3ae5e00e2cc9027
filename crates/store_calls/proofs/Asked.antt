-- What a question that is asked alone comes to.
use Prim.Native.Nat.{ℕ, ◌-◌}
use mathlib.Core.Path.{◌≡◌, refl, sym, ap}
use mathlib.Core.Bool.{Bool, true, false}
use native.Mathlib.Omega.{arith}
use Rattle.std.specs.Prelude.{None, Option, Some}
use Rattle.error.specs.Questions.{question, asked}

pub asked_yes : (k : ℕ) (b : Bool) → None ≡ asked None (question k b) → b ≡ true
unfolding asked
asked_yes k true h = refl
asked_yes k false h = let z : ◌≡◌ {A = ℕ} 0 1 = cc in absurd (omega arith)

pub asked_no : (k n : ℕ) (b : Bool) → Some n ≡ asked None (question k b) → (b ≡ false) × (n ≡ k)
unfolding asked
asked_no k n true h = let z : ◌≡◌ {A = ℕ} 0 1 = cc in absurd (omega arith)
asked_no k n false h = (refl, cc)
