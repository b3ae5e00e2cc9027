-- `print_path::closed` meets its contract.
use mathlib.Core.Path.{refl}
use Rattle.book.specs.Path.{closed}
use Rattle.print_path.proofs.closed.Goals as goal

pub returns : goal.returns
unfolding closed
returns c = refl
