-- `ask_commit::commit_written` meets its contract: the parts are as long as the counts say.
use mathlib.Core.Path.{sym}
use lib.Seq.{length-take-le}
use Rattle.ask_commit.proofs.commit_written.Goals as goal

pub slice_bounds-commit_segment-end : goal.slice_bounds-commit_segment-end
slice_bounds-commit_segment-end c = sym (length-take-le _ _ c.requires.0)

pub slice_bounds-commit_segment-end-2 : goal.slice_bounds-commit_segment-end-2
slice_bounds-commit_segment-end-2 c = sym (length-take-le _ _ c.requires.1)
