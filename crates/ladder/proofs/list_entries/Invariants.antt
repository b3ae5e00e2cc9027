-- `ladder::list_entries` meets its contract: i entries are written.
use Prim.Native.Nat.{◌-◌, ◌≤◌}
use mathlib.Core.Path.{◌≡◌}
use mathlib.Core.List.{map}
use Rattle.by_sequence.proofs.Listed.{listed}
use Rattle.pricelevel.specs.Price.{to_price}
use Rattle.ladder.specs.Records.{ladder_words_in}
use Rattle.ladder.proofs.list_entries.Given as goal

abbrev pub invariant-loop-i : goal.invariant-loop-i
invariant-loop-i l = (l.i ≤ l.m) × (l.list ≡ listed (ladder_words_in (map to_price l.prices) l.s) l.order l.m l.initial.list l.i)
