-- `session_text::numbers::read` meets its contract.
use Rattle.std.proofs.Common.{◌≤◌, length}
use Rattle.session_text.proofs.numbers.read.Given as goal

abbrev pub invariant-loop-c : goal.invariant-loop-c
invariant-loop-c l = l.count ≤ length l.n
