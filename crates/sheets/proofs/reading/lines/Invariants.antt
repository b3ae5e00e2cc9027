-- `sheets::reading::lines` is safe and ends. The measure is what is left of `text`.
use Rattle.std.proofs.Common.{◌-◌, ◌≤◌, length}
use Rattle.sheets.proofs.reading.lines.Given as goal

abbrev pub invariant-loop-at : goal.invariant-loop-at
invariant-loop-at l = l.at ≤ length l.text

abbrev pub decreases-loop-at : goal.decreases-loop-at
decreases-loop-at l = length l.text - l.at
