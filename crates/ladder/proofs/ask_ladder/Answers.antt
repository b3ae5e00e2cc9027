-- `ladder::ask_ladder` meets its contract: question by question, after that of the form.
use mathlib.Core.Path.{refl, sym, ◌∙◌}
use native.Mathlib.Omega.{arith}
use lib.ListN.{length-map}
use Rattle.error.proofs.Questions.{asked_next, asked_both, asked_first, first_no_lem}
use Rattle.error.specs.Verdict.{told_verdict}
use Rattle.book.specs.Calls.{pending_in}
use Rattle.book.specs.Ladder.{ladder_questions}
use Rattle.pending_stops.proofs.Found.{well_formed-stored, count_word}
use Rattle.store_words.proofs.ChainsOf.{well_formed_room}
use Rattle.ladder.proofs.ask_ladder.Goals as goal

pub returns-then-not-well_formed : goal.returns-then-not-well_formed
unfolding told_verdict ladder_questions
returns-then-not-well_formed c = sym (first_no_lem _ _ _ (sym c.well_formed-2.ensures ∙ c.if-not-well_formed.true))

pub bounds-s-1 : goal.bounds-s-1
bounds-s-1 c =
    omega (arith, (well_formed_room _ (sym c.well_formed-2.ensures ∙ c.if-not-well_formed.false)).room)

pub returns : goal.returns
unfolding told_verdict ladder_questions pending_in
returns c =
    let formed = sym c.well_formed-2.ensures ∙ c.if-not-well_formed.false in
    let q19 = asked_next 19 c.ask-2.ensures (asked_next 19 c.ask.ensures refl refl) refl ∙ asked_both _ 19 _ _ in
    rw (← count_word (well_formed-stored _ formed), length-map)
    (asked_next 14 c.ask-3.ensures q19 refl ∙ asked_first 1 _ _ formed)
