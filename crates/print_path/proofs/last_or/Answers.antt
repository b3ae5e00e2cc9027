-- `print_path::last_or` meets its contract.
use Rattle.book.specs.Path.{last_or}
use Rattle.print_path.proofs.last_or.Goals as goal

pub returns-in_default : goal.returns-in_default
unfolding last_or
returns-in_default c = rw c.in_default.is

pub returns : goal.returns
unfolding last_or
returns c = cc
