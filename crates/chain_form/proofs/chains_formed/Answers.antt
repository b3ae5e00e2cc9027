-- `chain_form::chains_formed` meets its contract: the records that the sides leave are those of the free chain.
use mathlib.Core.Path.{sym, ◌∙◌}
use native.Mathlib.Omega.{arith}
use borrow.Author.Tests.{eq-eqb, ne_eqb}
use Rattle.form_check.specs.Check.{chains_formed}
use Rattle.book.proofs.Tests.{and_fails, and_passes}
use Rattle.form_check.proofs.Walks.{chain-counted}
use Rattle.form_check.proofs.Counts.{group_count_rest, sides_pending, sides_few}
use Rattle.chain_form.proofs.chains_formed.Goals as goal

pub overflow_add-pending : goal.overflow_add-pending
overflow_add-pending c = omega (arith, sides_few c.count_sides-sides.ensures)

pub returns-then-s-pending : goal.returns-then-s-pending
unfolding chains_formed
returns-then-s-pending c =
    let e = sides_pending c.count_sides-sides.ensures in
    and_fails _ _ (ne_eqb _ _ (λ q. c.if-s-pending.true (q ∙ sym e)))

pub returns-then-not-side_formed : goal.returns-then-not-side_formed
unfolding chains_formed
returns-then-not-side_formed c =
    let e = sides_pending c.count_sides-sides.ensures in
    and_passes _ _ _ (eq-eqb _ _ (c.if-s-pending.false ∙ e))
    (and_fails _ _ (sym c.side_formed.ensures ∙ c.if-not-side_formed.true))

pub returns-then-not-side_formed-2 : goal.returns-then-not-side_formed-2
unfolding chains_formed
returns-then-not-side_formed-2 c =
    let e = sides_pending c.count_sides-sides.ensures in
    and_passes _ _ _ (eq-eqb _ _ (c.if-s-pending.false ∙ e))
    (and_passes _ _ _ (sym c.side_formed.ensures ∙ c.if-not-side_formed.false)
    (and_fails _ _ (sym c.side_formed-2.ensures ∙ c.if-not-side_formed-2.true)))

pub overflow_sub-n : goal.overflow_sub-n
overflow_sub-n c =
    omega (arith, sides_few c.count_sides-sides.ensures)

pub returns : goal.returns
unfolding chains_formed
returns c =
    let e = sides_pending c.count_sides-sides.ensures in
    and_passes _ _ _ (eq-eqb _ _ (c.if-s-pending.false ∙ e))
    (and_passes _ _ _ (sym c.side_formed.ensures ∙ c.if-not-side_formed.false)
    (and_passes _ _ _ (sym c.side_formed-2.ensures ∙ c.if-not-side_formed-2.false)
    (chain-counted _ _ _ _ _ (rw e (sym (group_count_rest _ _))) c.walk_formed.ensures)))
