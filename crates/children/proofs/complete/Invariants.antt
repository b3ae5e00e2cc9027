-- `children::complete` meets its contract: each turn completes one entry.
use Prim.Native.Nat.{◌-◌}
use Rattle.book.specs.Words.{book_of}
use Rattle.children.proofs.Completed.{Doing}
use Rattle.listing.specs.ChainEntries.{completed}
use Rattle.children.proofs.complete.Given as goal

abbrev pub invariant-loop-at : goal.invariant-loop-at
invariant-loop-at l = Doing (completed l.settings (book_of l.s)) l.initial.list l.from l.to l.at l.list
