-- `record_groups::side_of` meets its contract: each arm knows the chain.
use Rattle.record_groups.proofs.side_of.Goals as goal

pub returns-in-ByStop : goal.returns-in-ByStop
returns-in-ByStop c = rw c.in-ByStop.is

pub returns-in-ByWatermark : goal.returns-in-ByWatermark
returns-in-ByWatermark c = rw c.in-ByWatermark.is
