-- `passing::pass` meets its contract: each turn takes a segment from the queue, and hands on the part of the script
-- behind the used entries.
use Prim.Native.Nat.{◌-◌}
use lib.ListN.{length}
use Rattle.passing.proofs.Passes.{Passes}
use Rattle.passing.proofs.pass.Given as goal

abbrev pub invariant-loop-next : goal.invariant-loop-next
invariant-loop-next l =
    Passes l.settings l.script l.n l.initial.s l.initial.list l.initial.queue l.initial.head l.initial.tail l.s l.list l.queue l.head l.tail l.moves l.at l.used

abbrev pub decreases-loop-next : goal.decreases-loop-next
decreases-loop-next l =
    length l.initial.queue - l.head
