-- `term_words::terms_of` meets its contract.
use Rattle.term_words.proofs.terms_of.Goals as goal

pub returns : goal.returns
returns c = rw c.side_from.ensures
