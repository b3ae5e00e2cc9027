-- `print_path::prev_of` meets its contract.
use Rattle.book.specs.Path.{prev_of}
use Rattle.print_path.proofs.prev_of.Goals as goal

pub returns-then-path : goal.returns-then-path
unfolding prev_of
returns-then-path c = rw c.if-path.true

pub returns : goal.returns
unfolding prev_of
returns c = rw c.if-path.false
