-- `text_numbers::runs::count_at` meets its contract: what is left gives what the whole gives.
use Prim.Native.Nat.{◌+◌, ◌-◌, ◌≤◌}
use mathlib.Core.Path.{◌≡◌}
use lib.ListN.{length}
use Rattle.text_numbers.specs.Numbers.{count_from, count_at}
use Rattle.text_numbers.proofs.runs.count_at.Given as goal

abbrev pub invariant-loop-n : goal.invariant-loop-n
invariant-loop-n l = (l.at ≤ length l.line) × (count_from (length l.line + 1 - l.n) l.line l.from l.at l.n ≡ count_at l.line l.from)
