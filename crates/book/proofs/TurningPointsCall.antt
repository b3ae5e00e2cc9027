-- Laws of the call for turning points: when it is accepted, what it answers then, and that a refused one has a number.
use Prim.Native.Nat.{ℕ, ◌≤◌}
use mathlib.Core.Path.{◌≡◌, sym}
use mathlib.Core.Bool.{◌&&◌}
use mathlib.Core.List.{List}
use native.Mathlib.Omega.{arith}
use borrow.Author.Tests.{le-leb}
use borrow.Table.Steps.{cases}
use lib.Dec.{leb}
use lib.ListN.{length}
use Rattle.error.specs.Answer.{Answer, refused, accepted}
use Rattle.error.specs.Questions.{first_no, decide}
use Rattle.pricelevel.specs.declared.Price.{Price}
use Rattle.book.proofs.Questions.{first_no_of, decide_outcomes}
use Rattle.book.proofs.Refusals.{accepted_refused}
use Rattle.book.specs.Sizes.{most_prices}
use Rattle.book.specs.TurningPoints.{turning_points_questions, TurningPointsOutcome, turning_points_call}
use Rattle.std.specs.Prelude.{None}

pub turning_points_accepted : (prices : List Price) (list : ℕ) → 1 ≤ length prices → length prices ≤ most_prices
    → length prices ≤ list
    → first_no (turning_points_questions prices list) ≡ None
unfolding turning_points_questions
turning_points_accepted prices list k l h =
    first_no_of (turning_points_questions prices list)
    (rw (le-leb 1 (length prices) k, le-leb (length prices) most_prices l), (le-leb (length prices) list h, tt))

refused_same : {k n : ℕ} → ◌≡◌ {A = Answer ℕ} (refused k) (refused n) → k ≡ n
refused_same e = cc

-- an accepted call lists as many as it answers
pub turning_points_listed : (prices : List Price) (list n : ℕ) → accepted n ≡ (turning_points_call prices list).answer
    → length (turning_points_call prices list).listed ≡ n
unfolding turning_points_call
turning_points_listed prices list n =
    decide_outcomes (λ (o : TurningPointsOutcome). accepted n ≡ o.answer → length o.listed ≡ n) _ _ _
    (λ k e. absurd (accepted_refused n (k, e))) (λ f e. cc)

-- a refused one has a number
pub turning_points-number : (prices : List Price) (list : ℕ) → refused 0 ≡ (turning_points_call prices list).answer → ⊥
unfolding turning_points_call turning_points_questions first_no decide
turning_points-number prices list e =
    cases (leb 1 (length prices) && leb (length prices) most_prices)
    (λ f. cases (leb (length prices) list) (λ g. accepted_refused _ (0, sym (rw (f, g) at e)))
    (λ g. let z : ◌≡◌ {A = ℕ} 0 14 = refused_same (rw (f, g) at e) in omega arith))
    (λ f. let z : ◌≡◌ {A = ℕ} 0 16 = refused_same (rw f at e) in omega arith)
