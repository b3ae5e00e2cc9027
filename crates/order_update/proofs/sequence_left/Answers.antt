-- `order_update::sequence_left` meets its contract.
use mathlib.Core.Path.{sym, ◌∙◌}
use Rattle.order_update.proofs.sequence_left.Goals as goal

pub returns-then-takes_sequence : goal.returns-then-takes_sequence
returns-then-takes_sequence c = rw (sym c.takes_sequence.ensures ∙ c.if-takes_sequence.true)

pub returns : goal.returns
returns c = rw (sym c.takes_sequence.ensures ∙ c.if-takes_sequence.false)
