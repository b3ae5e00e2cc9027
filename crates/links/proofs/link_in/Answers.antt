-- `links::link_in` meets its contract.
use Rattle.links.proofs.link_in.Goals as goal

pub returns : goal.returns
returns c = λ l d. cc (c.seek-p.ensures.by_index_2 l d)
