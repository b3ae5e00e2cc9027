-- `turning_points::write_turning_points` meets its contract: the loop keeps `Turning`.
use Rattle.turning_points.proofs.Turning.{Turning}
use Rattle.turning_points.proofs.write_turning_points.Given as goal

abbrev pub invariant-loop-i : goal.invariant-loop-i
invariant-loop-i l = Turning l.prices l.initial.list l.list l.start l.here l.count l.i
