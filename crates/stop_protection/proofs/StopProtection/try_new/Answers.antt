-- `stop_protection::StopProtection::try_new` meets its contract, by the test on the collar.
use borrow.Author.Tests.{eq-eqb, ne_eqb}
use Rattle.stop_protection.specs.Collar.{try_new}
use Rattle.error.specs.Answer.{told_answer}
use Rattle.stop_protection.proofs.StopProtection.try_new.Goals as goal

pub returns-then-collar-eq0 : goal.returns-then-collar-eq0
unfolding try_new told_answer
returns-then-collar-eq0 c = rw (eq-eqb _ _ c.if-collar-eq0.true)

pub returns : goal.returns
unfolding try_new told_answer
returns c = rw (ne_eqb _ _ c.if-collar-eq0.false)
