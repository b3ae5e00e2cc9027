-- `record_form::record_formed` meets its contract: each return is a test that fails, or the last.
use mathlib.Core.Path.{sym, ◌∙◌}
use borrow.Author.Tests.{le-leb, lt-leb, eq-eqb, ne_eqb}
use Rattle.form_check.specs.Check.{is_zero, record_formed}
use Rattle.book.proofs.Tests.{and_fails, and_passes}
use Rattle.record_form.proofs.record_formed.Goals as goal

pub returns-then-quantity-eq0 : goal.returns-then-quantity-eq0
unfolding record_formed is_zero
returns-then-quantity-eq0 c = rw (eq-eqb _ _ (sym c.word-quantity.ensures ∙ c.if-quantity-eq0.true)) c.is_blank.ensures

pub returns-then-kind-gt2 : goal.returns-then-kind-gt2
unfolding record_formed is_zero
returns-then-kind-gt2 c =
    rw (ne_eqb _ _ (λ e. c.if-quantity-eq0.false (c.word-quantity.ensures ∙ e)))
    (and_fails _ _ (lt-leb _ _ (rw c.word-kind.ensures at c.if-kind-gt2.true)))

pub returns-then-side-gt1 : goal.returns-then-side-gt1
unfolding record_formed is_zero
returns-then-side-gt1 c =
    rw (ne_eqb _ _ (λ e. c.if-quantity-eq0.false (c.word-quantity.ensures ∙ e)))
    (and_passes _ _ _ (le-leb _ _ (rw c.word-kind.ensures at c.if-kind-gt2.false))
    (and_fails _ _ (lt-leb _ _ (rw c.word-side.ensures at c.if-side-gt1.true))))

pub returns : goal.returns
unfolding record_formed is_zero
returns c =
    rw (ne_eqb _ _ (λ e. c.if-quantity-eq0.false (c.word-quantity.ensures ∙ e)))
    (and_passes _ _ _ (le-leb _ _ (rw c.word-kind.ensures at c.if-kind-gt2.false))
    (and_passes _ _ _ (le-leb _ _ (rw c.word-side.ensures at c.if-side-gt1.false)) c.sound_stop.ensures))
