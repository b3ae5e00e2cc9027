-- `pricelevel::Holder::eq` meets its contract: each way out has the test that decides it.
use borrow.Author.Tests.{eq-eqb, ne_eqb}
use Rattle.pricelevel.specs.Holder.{same_holder}
use Rattle.pricelevel.proofs.Holder.eq.Goals as goal

pub returns-then-self-other : goal.returns-then-self-other
unfolding same_holder
returns-then-self-other c = rw (ne_eqb _ _ c.if-self-other.true)

pub returns-then-self-other-2 : goal.returns-then-self-other-2
unfolding same_holder
returns-then-self-other-2 c = rw (eq-eqb _ _ c.if-self-other.false, ne_eqb _ _ c.if-self-other-2.true)

pub returns-then-self-other-3 : goal.returns-then-self-other-3
unfolding same_holder
returns-then-self-other-3 c =
    rw (eq-eqb _ _ c.if-self-other.false, eq-eqb _ _ c.if-self-other-2.false, ne_eqb _ _ c.if-self-other-3.true)

pub returns : goal.returns
unfolding same_holder
returns c =
    rw (eq-eqb _ _ c.if-self-other.false, eq-eqb _ _ c.if-self-other-2.false, eq-eqb _ _ c.if-self-other-3.false)
