-- `text_lines::line_at` meets its contract: the line looked for is one of those that are left.
use Prim.Native.Nat.{◌-◌, ◌≤◌}
use mathlib.Core.Path.{◌≡◌}
use mathlib.Core.List.{[]}
use lib.ListN.{length, drop, get_or}
use Rattle.text_lines.specs.Lines.{lines_of, line_at}
use Rattle.text_lines.proofs.line_at.Given as goal

abbrev pub invariant-loop-i : goal.invariant-loop-i
invariant-loop-i l = (l.at ≤ length l.text) × (get_or (lines_of (drop l.at l.text)) (l.k - l.i) [] ≡ line_at l.k l.text)
