-- `term_words::id_of` meets its contract.
use Rattle.term_words.proofs.id_of.Goals as goal

pub returns : goal.returns
returns c = rw c.kind_of.ensures
