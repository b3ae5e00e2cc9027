-- `sheets::reading::panels` is safe and ends: each walk has a line. The measure is what is left of `text`.
use Rattle.std.proofs.Common.{◌-◌, ◌≤◌, length}
use Rattle.sheets.proofs.reading.panels.Given as goal

abbrev pub invariant-loop-at : goal.invariant-loop-at
invariant-loop-at l = (l.at ≤ length l.text) × (l.many ≤ l.at)

abbrev pub decreases-loop-at : goal.decreases-loop-at
decreases-loop-at l = length l.text - l.at
