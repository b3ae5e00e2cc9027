-- `evaluate_ask::ask_segment` meets its contract: it answers and lists what the segment on the copy does.
use Rattle.evaluate_ask.proofs.ask_segment.Goals as goal

pub returns : goal.returns
returns c = let e = c.segment_on_copy-o.ensures in (e.0, e.3, e.4)
