-- `host_store::layout_store` meets its contract.
use Rattle.host_store.proofs.layout_store.Goals as goal

pub returns : goal.returns
returns c =
    (rw c.layout_store.ensures.result_value at c.of_layout.ensures, c.layout_store.ensures.s_after)
