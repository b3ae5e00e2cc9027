-- `print_path::recorded` meets its contract.
use borrow.Author.Tests.{ne_eqb}
use Rattle.book.specs.Path.{recorded}
use Rattle.print_path.proofs.recorded.Goals as goal

pub returns-then-pending-eq0 : goal.returns-then-pending-eq0
unfolding recorded
returns-then-pending-eq0 c = rw c.if-pending-eq0.true

pub returns-then-path : goal.returns-then-path
unfolding recorded
returns-then-path c = rw (ne_eqb _ _ c.if-pending-eq0.false, c.if-path.true)

pub returns : goal.returns
unfolding recorded
returns c = rw (ne_eqb _ _ c.if-pending-eq0.false, c.if-path.false) c.opened.ensures
