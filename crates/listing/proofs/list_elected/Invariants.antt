-- `listing::list_elected` meets its contract: the loop walks along the stop chain.
use Rattle.book.specs.Chains.{link_of}
use Rattle.listing.proofs.Along.{At}
use Rattle.listing.proofs.Leaders.{elected_stop}
use Rattle.listing.proofs.Walked.{walked}
use Rattle.listing.specs.ChainEntries.{fills_of}
use Rattle.listing.proofs.list_elected.Given as goal

abbrev pub invariant-loop-i : goal.invariant-loop-i
invariant-loop-i l =
    At (elected_stop l.price)
    (fills_of l.price) l.s l.n (link_of l.c) l.initial.list l.at (walked (elected_stop l.price) (fills_of l.price) l.s l.c) l.i l.m l.left l.list

abbrev pub decreases-loop-i : goal.decreases-loop-i
decreases-loop-i l = l.left
