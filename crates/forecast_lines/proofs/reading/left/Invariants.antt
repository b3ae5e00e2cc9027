-- `forecast_lines::reading::left` meets its contract. The measure is what is left to 2^62: each turn reads a byte at
-- least.
use Prim.Native.Nat.{◌+◌, ◌-◌, ◌^◌, ◌≤◌}
use Rattle.forecast_lines.proofs.reading.left.Given as goal

abbrev pub invariant-loop-total : goal.invariant-loop-total
invariant-loop-total l = l.total ≤ 2 ^ 62 + 65536

abbrev pub decreases-loop-total : goal.decreases-loop-total
decreases-loop-total l = 2 ^ 62 - l.total
