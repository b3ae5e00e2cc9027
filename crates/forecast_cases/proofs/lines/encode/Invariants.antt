-- `forecast_cases::lines::encode` meets its contract.
use Rattle.std.proofs.Common.{◌≤◌, length}
use Rattle.forecast_cases.proofs.lines.encode.Given as goal

abbrev pub invariant-loop-c : goal.invariant-loop-c
invariant-loop-c l = l.n ≤ length l.bytes
