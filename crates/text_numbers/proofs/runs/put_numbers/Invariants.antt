-- `text_numbers::runs::put_numbers` meets its contract: what is left, put behind what is there, is the whole.
use Prim.Native.Nat.{◌+◌, ◌-◌, ◌≤◌}
use mathlib.Core.Path.{◌≡◌}
use lib.ListN.{length}
use lib.Seq.{sets}
use Rattle.text_numbers.specs.Numbers.{numbers_at}
use Rattle.text_numbers.proofs.runs.put_numbers.Given as goal

abbrev pub invariant-loop-i : goal.invariant-loop-i
invariant-loop-i l =
    (l.place ≤ length l.line)
    × (sets l.list l.i (numbers_at (l.at + l.count - l.i) l.line l.place) ≡ sets l.initial.list l.at (numbers_at l.count l.line l.from))
