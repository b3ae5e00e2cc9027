-- `electing::free_elected` meets its contract: in each turn the first of the stop chain leaves.
use Prim.Native.Nat.{◌-◌}
use Rattle.electing.proofs.Turns.{Turns}
use Rattle.electing.proofs.free_elected.Given as goal

abbrev pub invariant-loop-side : goal.invariant-loop-side
invariant-loop-side l = Turns l.side l.price l.n l.initial.s l.s l.m

abbrev pub decreases-loop-side : goal.decreases-loop-side
decreases-loop-side l = l.n - l.m
