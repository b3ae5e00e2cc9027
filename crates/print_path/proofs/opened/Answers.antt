-- `print_path::opened` meets its contract.
use Rattle.book.specs.Path.{opened}
use Rattle.print_path.proofs.opened.Goals as goal

pub returns-in_default : goal.returns-in_default
unfolding opened
returns-in_default c = rw c.in_default.is

pub returns : goal.returns
unfolding opened
returns c = cc
