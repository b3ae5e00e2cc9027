-- `record_groups::group_in` meets its contract: each arm knows the chain.
use mathlib.Core.Path.{ap, ◌∙◌}
use Rattle.pricelevel.specs.Side.{side_number}
use Rattle.record_groups.proofs.group_in.Goals as goal

pub returns-in-Ordered : goal.returns-in-Ordered
returns-in-Ordered c = rw c.in-Ordered.is
    (c.number.ensures ∙ ap side_number c.side_of-side.ensures)
