-- `host_store::well_formed` meets its contract.
use Rattle.host_store.proofs.well_formed.Goals as goal

pub returns : goal.returns
returns c = rw c.well_formed-2.ensures at c.flag.ensures
