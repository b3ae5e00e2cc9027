-- `trailing::trail_records` meets its contract: each turn trails one more stop of the chain.
use Rattle.chains.specs.Rank.{pair}
use Rattle.trailing.proofs.TrailWalk.{Trailing}
use Rattle.trailing.proofs.trail_records.Given as goal

abbrev pub invariant-loop-price : goal.invariant-loop-price
invariant-loop-price l =
    Trailing l.n l.initial.s l.side l.price l.s l.p l.moved l.sorted (pair l.last) l.left

abbrev pub decreases-loop-price : goal.decreases-loop-price
decreases-loop-price l = l.left
