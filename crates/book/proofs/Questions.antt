-- What the questions of a call leave: none is answered no exactly where all are answered yes; and what holds of both
-- outcomes holds.
use Prim.Native.Nat.{ℕ}
use native.Mathlib.Omega.{arith}
use mathlib.Core.Path.{◌≡◌, refl}
use mathlib.Core.Bool.{true}
use mathlib.Core.List.{List, [], ◌∷◌}
use borrow.Table.Steps.{cases}
use Rattle.book.specs.Lists.{All}
use Rattle.error.specs.Questions.{Question, first_no, decide}
use Rattle.std.specs.Prelude.{None, Option, Some}

pub first_no_of : (qs : List Question) → All (λ q. q.holds ≡ true) qs → first_no qs ≡ None
unfolding first_no
first_no_of [] h = refl
first_no_of (q ∷ qs) h = rw h.0 (first_no_of qs h.1)

pub first_no_none : (qs : List Question) → first_no qs ≡ None → All (λ q. q.holds ≡ true) qs
unfolding first_no
first_no_none [] e = tt
first_no_none (q ∷ qs) e = cases q.holds
    (λ f. (f, first_no_none qs (rw f at e)))
    (λ f. let g : Some q.number ≡ None = rw f at e in let z : ◌≡◌ {A = ℕ} 0 1 = cc in absurd (omega arith))

pub decide_outcomes : {A : Type 0} (P : A → Type 0) (x : Option ℕ) (refusal : ℕ → A) (acceptance : A)
    → ((k : ℕ) → P (refusal k)) → (x ≡ None → P acceptance)
    → P (decide x refusal acceptance)
unfolding decide
decide_outcomes P None refusal acceptance h g = g refl
decide_outcomes P (Some k) refusal acceptance h g = h k
