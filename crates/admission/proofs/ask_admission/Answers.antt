-- `admission::ask_admission` meets its contract: question by question, after that of the form.
use mathlib.Core.Path.{refl, sym, ◌∙◌}
use native.Mathlib.Omega.{arith}
use Rattle.error.proofs.Questions.{asked_next, asked_first, first_no_lem}
use Rattle.error.specs.Verdict.{told_verdict}
use Rattle.book.specs.Store.{admission_questions}
use Rattle.book.specs.Words.{book_of}
use Rattle.store_words.proofs.ChainsOf.{well_formed_room}
use Rattle.admission.proofs.AdmissionQuestions.{pending-asked, room-asked}
use Rattle.admission.proofs.ask_admission.Goals as goal

pub returns-then-not-well_formed : goal.returns-then-not-well_formed
unfolding told_verdict admission_questions
returns-then-not-well_formed c = sym (first_no_lem _ _ _ (sym c.well_formed-2.ensures ∙ c.if-not-well_formed.true))

pub bounds-s-0 : goal.bounds-s-0
bounds-s-0 c =
    omega (arith, (well_formed_room _ (sym c.well_formed-2.ensures ∙ c.if-not-well_formed.false)).room)

pub bounds-s-1 : goal.bounds-s-1
bounds-s-1 c =
    omega (arith, (well_formed_room _ (sym c.well_formed-2.ensures ∙ c.if-not-well_formed.false)).room)

pub bounds-s-2 : goal.bounds-s-2
bounds-s-2 c =
    omega (arith, (well_formed_room _ (sym c.well_formed-2.ensures ∙ c.if-not-well_formed.false)).room)

pub bounds-s-3 : goal.bounds-s-3
bounds-s-3 c =
    omega (arith, (well_formed_room _ (sym c.well_formed-2.ensures ∙ c.if-not-well_formed.false)).room)

pub find_id-requires : goal.find_id-requires
find_id-requires c =
    (sym c.well_formed-2.ensures ∙ c.if-not-well_formed.false, refl)

pub returns : goal.returns
unfolding told_verdict admission_questions book_of
returns c =
    let formed = sym c.well_formed-2.ensures ∙ c.if-not-well_formed.false in
    let q3 = asked_next 3 c.ask.ensures refl refl in
    let q4 = asked_next 4 c.ask-2.ensures q3 refl in
    let q5 = asked_next 5 c.ask-3.ensures q4 refl in
    let q6 = asked_next 6 c.ask-4.ensures q5 c.within_watermark.ensures in
    let q7 = asked_next 7 c.ask-5.ensures q6 c.not_triggered.ensures in
    let q8 = asked_next 8 c.ask-6.ensures q7 (pending-asked _ _ _ c.find_id.ensures) in
    let q9 = asked_next 9 c.ask-7.ensures q8 c.on_tick.ensures in
    let q10 = asked_next 10 c.ask-8.ensures q9 (room-asked _ formed _ refl) in
    asked_next 11 c.ask-9.ensures q10 refl ∙ asked_first 1 _ _ formed
