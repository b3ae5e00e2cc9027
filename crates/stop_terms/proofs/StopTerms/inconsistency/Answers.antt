-- `stop_terms::StopTerms::inconsistency` meets its contract: each way out knows the tests that led there.
use borrow.Author.Tests.{eq-eqb, ne_eqb, lt-ltb, le-ltb}
use Rattle.stop_terms.specs.Terms.{behind, beyond, inconsistency_of}
use Rattle.stop_terms.proofs.StopTerms.inconsistency.Goals as goal

pub returns-then-self-eq0 : goal.returns-then-self-eq0
unfolding behind beyond inconsistency_of
returns-then-self-eq0 c = rw (eq-eqb _ _ c.if-self-eq0.true)

pub returns-then-self : goal.returns-then-self
unfolding behind beyond inconsistency_of
returns-then-self c = rw (
  c.in-Sell.is,
  ne_eqb _ _ c.if-self-eq0.false,
  lt-ltb _ _ c.if-self.true,
)

pub returns-then-self-2 : goal.returns-then-self-2
unfolding behind beyond inconsistency_of
returns-then-self-2 c = rw (
  c.in-Buy.is,
  ne_eqb _ _ c.if-self-eq0.false,
  lt-ltb _ _ c.if-self-2.true,
)

pub returns-else-self : goal.returns-else-self
unfolding behind beyond inconsistency_of
returns-else-self c = rw (
  c.in-Sell.is,
  ne_eqb _ _ c.if-self-eq0.false,
  le-ltb _ _ c.if-self.false,
)

pub returns-else-self-2 : goal.returns-else-self-2
unfolding behind beyond inconsistency_of
returns-else-self-2 c = rw (
  c.in-Buy.is,
  ne_eqb _ _ c.if-self-eq0.false,
  le-ltb _ _ c.if-self-2.false,
)
