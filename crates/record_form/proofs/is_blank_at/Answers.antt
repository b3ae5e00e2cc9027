-- `record_form::is_blank_at` meets its contract.
use borrow.Author.Tests.{eq-eqb, ne_eqb}
use Rattle.form_check.specs.Check.{is_zero, blank_at}
use Rattle.record_form.proofs.is_blank_at.Goals as goal

pub returns-then-k-eq-NEXT_BY_STOP : goal.returns-then-k-eq-NEXT_BY_STOP
unfolding blank_at
returns-then-k-eq-NEXT_BY_STOP c = rw (eq-eqb _ _ c.if-k-eq-NEXT_BY_STOP.true)

pub returns : goal.returns
unfolding blank_at is_zero
returns c = rw (ne_eqb _ _ c.if-k-eq-NEXT_BY_STOP.false, c.word.ensures)
