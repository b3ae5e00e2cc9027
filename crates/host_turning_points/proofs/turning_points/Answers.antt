-- `host_turning_points::turning_points` meets its contract.
use Rattle.host_turning_points.proofs.turning_points.Goals as goal

pub returns : goal.returns
returns c =
    rw (← c.turning_points-listed.ensures.0) (c.answer.ensures, c.turning_points-listed.ensures.1)
