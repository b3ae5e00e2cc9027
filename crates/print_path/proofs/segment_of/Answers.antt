-- `print_path::segment_of` meets its contract.
use Rattle.book.specs.Path.{segment_of}
use Rattle.print_path.proofs.segment_of.Goals as goal

pub returns : goal.returns
unfolding segment_of
returns c = rw (c.prev_of.ensures, c.last_or.ensures)
