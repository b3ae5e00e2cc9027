-- `stop_run::next_segment` meets its contract.
use Rattle.evaluation.proofs.Passes.{taken-segment}
use Rattle.stop_run.proofs.next_segment.Goals as goal

pub returns-then-pending-eq0 : goal.returns-then-pending-eq0
returns-then-pending-eq0 c = rw c.if-pending-eq0.true

pub returns : goal.returns
returns c = taken-segment _ _ _ _ c.if-pending-eq0.false c.taken-taken.ensures.segment_value
