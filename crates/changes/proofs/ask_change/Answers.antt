-- `changes::ask_change` meets its contract: question by question.
use mathlib.Core.Path.{refl, ap, ◌∙◌}
use lib.Dec.{leb}
use Rattle.pricelevel.specs.declared.Quantity.{Quantity}
use Rattle.error.proofs.Questions.{asked_next, asked_all-first_no}
use Rattle.error.specs.Verdict.{told_verdict}
use Rattle.book.specs.Store.{change_questions}
use Rattle.changes.proofs.ask_change.Goals as goal

pub returns : goal.returns
unfolding told_verdict change_questions
returns c b e =
    rw (e, ← c.changed_terms-terms.ensures) (
    let q13 = asked_next 13 c.ask.ensures refl c.differs_in_price.ensures in
    let q4 = asked_next 4 c.ask-2.ensures q13
    (ap (λ (q : Quantity). leb 1 q.0) c.changed_quantity-quantity.ensures) in
    let q6 = asked_next 6 c.ask-3.ensures q4 c.within_watermark.ensures in
    let q7 = asked_next 7 c.ask-4.ensures q6 c.not_triggered.ensures in
    asked_next 11 c.ask-5.ensures q7 c.sequence_left.ensures ∙ asked_all-first_no _
    )
