-- What the number that a call for turning points returns tells of its answer.
use Prim.Native.Nat.{ℕ}
use mathlib.Core.Path.{◌≡◌, sym, ap, ◌∙◌}
use mathlib.Core.List.{List}
use lib.ListN.{get_or}
use Rattle.error.specs.Answer.{Answer, refused, accepted}
use Rattle.book.proofs.TurningPointsCall.{turning_points-number}
use Rattle.book.specs.TurningPoints.{turning_points_call}
use Rattle.host_words.specs.Answers.{answered, listed_words, number, Told}
use Rattle.pricelevel.specs.declared.Price.{Price}

pub told_refused : (a : Answer ℕ) (lent after : List ℕ) (r : ℕ) → Told listed_words a lent r after → (r ≡ 0 → ⊥)
    → refused r ≡ a
unfolding number
told_refused (refused k) lent after r t h = ap refused t.0
told_refused (accepted n) lent after r t h = absurd (h t.0)

told_accepted : (a : Answer ℕ) (lent after : List ℕ) (r : ℕ) → Told listed_words a lent r after → r ≡ 0
    → (refused 0 ≡ a → ⊥)
    → accepted (get_or after 0 0) ≡ a
unfolding number answered
told_accepted (refused k) lent after r t e h = absurd (h (ap refused (sym e ∙ t.0)))
told_accepted (accepted n) lent after r t e h = rw t.1

pub told_listed : (ps : List Price) (places : ℕ) (lent after : List ℕ) (r : ℕ)
    → Told listed_words (turning_points_call ps places).answer lent r after
    → r ≡ 0
    → accepted (get_or after 0 0) ≡ (turning_points_call ps places).answer
told_listed ps places lent after r t e = told_accepted _ lent after r t e (turning_points-number ps places)
