-- `collect_words::selector_known` meets its contract.
use Rattle.collect_words.proofs.selector_known.Goals as goal

pub returns-then-of_side : goal.returns-then-of_side
returns-then-of_side c = rw c.if-of_side.true c.side_known.ensures
