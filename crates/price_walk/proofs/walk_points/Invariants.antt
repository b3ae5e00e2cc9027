-- `price_walk::walk_points` meets its contract: each turn is a point at one more price.
use Prim.Native.Nat.{◌-◌}
use Rattle.price_walk.proofs.Walks.{Walked}
use Rattle.price_walk.proofs.walk_points.Given as goal

abbrev pub invariant-loop-i : goal.invariant-loop-i
invariant-loop-i l =
    Walked l.kill l.falls l.initial.from l.prices l.n l.initial.s l.s l.initial.list l.list l.from l.moves l.at l.i
