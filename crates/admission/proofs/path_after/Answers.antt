-- `admission::path_after` meets its contract.
use borrow.Author.Tests.{ne_eqb}
use Rattle.admission.proofs.path_after.Goals as goal

pub returns-then-pending-eq0 : goal.returns-then-pending-eq0
returns-then-pending-eq0 c = rw c.if-pending-eq0.true c.closed.ensures

pub returns : goal.returns
returns c = rw (ne_eqb _ _ c.if-pending-eq0.false)
