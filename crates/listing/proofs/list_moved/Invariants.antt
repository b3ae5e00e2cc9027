-- `listing::list_moved` meets its contract: the loop walks along the watermark chain.
use Rattle.book.specs.Chains.{link_of}
use Rattle.listing.proofs.Along.{At}
use Rattle.listing.proofs.Leaders.{watermark_behind}
use Rattle.listing.proofs.Walked.{walked}
use Rattle.listing.specs.ChainEntries.{moves_of}
use Rattle.listing.proofs.list_moved.Given as goal

abbrev pub invariant-loop-i : goal.invariant-loop-i
invariant-loop-i l =
    At (watermark_behind l.side l.price)
    (moves_of l.price) l.s l.n (link_of l.c) l.initial.list l.at (walked (watermark_behind l.side l.price) (moves_of l.price) l.s l.c) l.i l.m l.left l.list

abbrev pub decreases-loop-i : goal.decreases-loop-i
decreases-loop-i l = l.left
