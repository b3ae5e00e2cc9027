-- `order_update::next_after` meets its contract.
use mathlib.Core.Path.{sym, ◌∙◌}
use Rattle.order_update.proofs.next_after.Goals as goal

pub overflow_add-result : goal.overflow_add-result
overflow_add-result c = record { fits = c.requires (sym c.takes_sequence.ensures ∙ c.if-takes_sequence.true) }

pub returns-then-takes_sequence : goal.returns-then-takes_sequence
returns-then-takes_sequence c = rw (sym c.takes_sequence.ensures ∙ c.if-takes_sequence.true)

pub returns : goal.returns
returns c = rw (sym c.takes_sequence.ensures ∙ c.if-takes_sequence.false)
