-- `stop_words::update_known` meets its contract.
use Rattle.stop_words.proofs.update_known.Goals as goal

pub returns-then-replaced : goal.returns-then-replaced
returns-then-replaced c = rw (c.if-kept_side.false, c.if-replaced.true) c.side_known.ensures
