-- `links::find` meets its contract: the loop walks along the chain, with record i still to come.
use Rattle.chains.specs.Links.{spot}
use Rattle.chains.proofs.Walks.{At, still}
use Rattle.links.proofs.find.Given as goal

abbrev pub invariant-loop-n : goal.invariant-loop-n
invariant-loop-n l = At l.n l.s l.link l.head (spot l.link l.i) (still l.i) l.p l.left

abbrev pub decreases-loop-n : goal.decreases-loop-n
decreases-loop-n l = l.left
