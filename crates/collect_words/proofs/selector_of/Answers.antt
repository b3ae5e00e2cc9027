-- `collect_words::selector_of` meets its contract.
use native.Mathlib.Omega.{arith}
use borrow.Author.Tests.{ne_eqb}
use Rattle.collect_words.proofs.selector_of.Goals as goal

pub returns-in-1 : goal.returns-in-1
returns-in-1 c = rw c.in-1.is (rw c.side_from.ensures)

pub returns-in-0 : goal.returns-in-0
returns-in-0 c = rw c.in-0.is
