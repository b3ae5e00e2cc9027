-- `links::link_out` meets its contract.
use Rattle.links.proofs.link_out.Goals as goal

pub returns : goal.returns
returns c = λ l d. cc (c.find-p.ensures.by_index l d)
