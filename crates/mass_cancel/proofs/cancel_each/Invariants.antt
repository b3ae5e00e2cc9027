-- `mass_cancel::cancel_each` meets its contract: a turn takes the first of those that are left out.
use Prim.Native.Nat.{ℕ, ◌-◌, ◌≤◌}
use mathlib.Core.List.{List}
use mathlib.Core.Path.{◌≡◌}
use lib.ListN.{length}
use Rattle.book.specs.Book.{Book, indices}
use Rattle.book.specs.Collect.{selected, vacated_each}
use Rattle.book.specs.declared.Selector.{Selector}
use Rattle.by_sequence.specs.Begins.{Begins}
use Rattle.pending_stops.specs.Stored.{Stored}
use Rattle.mass_cancel.proofs.Leaving.{Leaving}
use Rattle.mass_cancel.proofs.cancel_each.Given as goal

abbrev pub invariant-loop-i : goal.invariant-loop-i
invariant-loop-i l = (l.i ≤ l.m) × (length l.s ≡ length l.initial.s)
    × ((b : Book) (r : List ℕ) (selector : Selector) → Stored l.n l.initial.s b r
    → Begins l.order l.m (indices (selected selector b.slots))
    → Leaving l.n l.order l.m l.i l.s r (vacated_each (selected selector b.slots) b))
