-- `session::reading::blocks` is safe: the bytes kept of a line are within the text.
use Rattle.std.proofs.Common.{◌≤◌, length}
use Rattle.session.proofs.reading.blocks.Given as goal

abbrev pub invariant-loop : goal.invariant-loop
invariant-loop l = l.kept ≤ length l.text
