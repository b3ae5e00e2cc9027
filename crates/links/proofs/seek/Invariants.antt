-- `links::seek` meets its contract: the loop walks along the chain.
use Rattle.chains.specs.Links.{place}
use Rattle.chains.specs.Rank.{rank_at}
use Rattle.chains.proofs.Walks.{At, any}
use Rattle.links.proofs.seek.Given as goal

abbrev pub invariant-loop-c : goal.invariant-loop-c
invariant-loop-c l = At l.n l.s l.link l.head (place (rank_at l.c l.s) l.link l.i) any l.p l.left

abbrev pub decreases-loop-c : goal.decreases-loop-c
decreases-loop-c l = l.left
