-- `path_words::prints_of` meets its contract.
use Rattle.path_words.proofs.prints_of.Goals as goal

pub returns : goal.returns
returns c = rw c.last_price_from.ensures
