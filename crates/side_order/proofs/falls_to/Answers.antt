-- `side_order::falls_to` meets its contract.
use Rattle.book.specs.Evaluation.{falls_to}
use mathlib.Core.Path.{refl}
use Rattle.side_order.proofs.falls_to.Goals as goal

pub returns : goal.returns
unfolding falls_to
returns c = refl
