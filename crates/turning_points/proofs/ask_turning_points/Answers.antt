-- `turning_points::ask_turning_points` meets its contract: question by question.
use mathlib.Core.List.{[], ◌∷◌}
use mathlib.Core.Path.{refl, ◌∙◌}
use lib.ListN.{length-map}
use Rattle.error.proofs.Questions.{asked_next, asked_both, asked_all-first_no}
use Rattle.error.specs.Verdict.{told_verdict}
use Rattle.book.specs.TurningPoints.{turning_points_questions}
use Rattle.turning_points.proofs.ask_turning_points.Goals as goal

pub returns : goal.returns
unfolding told_verdict turning_points_questions
returns c =
    let q16 =
    asked_next 16 c.ask-2.ensures (asked_next 16 c.ask.ensures refl refl) refl ∙ asked_both _ 16 _ _ in
    rw length-map (asked_next 14 c.ask-3.ensures q16 refl ∙ asked_all-first_no (_ ∷ _ ∷ []))
