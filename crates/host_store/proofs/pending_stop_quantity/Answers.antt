-- `host_store::pending_stop_quantity` meets its contract.
use Rattle.host_store.proofs.pending_stop_quantity.Goals as goal

pub returns : goal.returns
returns c = rw c.pending_stop_quantity.ensures at c.answer.ensures
