-- `path_words::last_price_from` meets its contract.
use Rattle.path_words.proofs.last_price_from.Goals as goal

pub returns-then-absent : goal.returns-then-absent
returns-then-absent c = rw c.if-absent.true
