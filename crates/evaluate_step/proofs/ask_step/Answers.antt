-- `evaluate_step::ask_step` meets its contract: question by question, after that of the form.
use mathlib.Core.Path.{refl, sym, ◌∙◌}
use native.Mathlib.Omega.{arith}
use Rattle.error.proofs.Questions.{asked_next, asked_both, asked_first, first_no_lem}
use Rattle.error.specs.Verdict.{told_verdict}
use Rattle.book.specs.StepCall.{step_questions}
use Rattle.store_words.proofs.ChainsOf.{well_formed_room}
use Rattle.evaluation.proofs.Questions.{count_word}
use Rattle.evaluate_step.proofs.ask_step.Goals as goal

pub returns-then-not-well_formed : goal.returns-then-not-well_formed
unfolding told_verdict step_questions
returns-then-not-well_formed c = sym (first_no_lem _ _ _ (sym c.well_formed-2.ensures ∙ c.if-not-well_formed.true))

pub bounds-s-1 : goal.bounds-s-1
bounds-s-1 c =
    omega (arith, (well_formed_room _ (sym c.well_formed-2.ensures ∙ c.if-not-well_formed.false)).room)

pub returns : goal.returns
unfolding told_verdict step_questions
returns c =
    let formed = sym c.well_formed-2.ensures ∙ c.if-not-well_formed.false in
    rw (← count_word _ formed)
    (asked_next 14 c.ask-2.ensures (asked_next 14 c.ask.ensures refl refl) refl ∙ asked_both _ 14 _ _
    ∙ asked_first 1 _ _ formed)
