-- `stop_trigger::stop_trigger_order_id` meets its contract, by congruence from what its callees ensure.
use Rattle.stop_trigger.specs.Child.{child_id, id_bytes, id_of}
use Rattle.stop_trigger.proofs.stop_trigger_order_id.Goals as goal

pub returns : goal.returns
unfolding child_id id_bytes id_of
returns c = cc
