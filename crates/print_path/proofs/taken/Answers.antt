-- `print_path::taken` meets its contract.
use mathlib.Core.Path.{ap}
use Rattle.book.specs.Path.{take, segment_of, prev_of}
use Rattle.print_path.proofs.taken.Goals as goal
use Rattle.std.specs.Prelude.{Some}

pub returns-then-path : goal.returns-then-path
unfolding take segment_of prev_of
returns-then-path c =
    record {
      segment_value = rw c.if-path.true (ap Some c.segment_of.ensures);
      path_value = c.closed-after.ensures;
    }

pub returns : goal.returns
unfolding take
returns c =
    record {
      segment_value = rw c.if-path.false;
      path_value = c.closed-after.ensures;
    }
