-- `chain_form::may_follow` meets its contract: each return is a case of the test.
use borrow.Author.Tests.{eq-eqb, ne_eqb}
use Rattle.form_check.specs.Check.{may_follow}
use Rattle.chain_form.proofs.may_follow.Goals as goal

pub returns-in_default : goal.returns-in_default
unfolding may_follow
returns-in_default c = rw c.in_default.is

pub returns-then-q-eq0 : goal.returns-then-q-eq0
unfolding may_follow
returns-then-q-eq0 c = rw (c.in-Ordered.is, eq-eqb _ _ c.if-q-eq0.true)

pub returns : goal.returns
unfolding may_follow
returns c =
    rw (
      c.in-Ordered.is,
      ne_eqb _ _ c.if-q-eq0.false,
      ← c.rank_of.ensures,
      ← c.rank_of-2.ensures,
    ) c.is_before.ensures
