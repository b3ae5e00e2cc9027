-- `trailing::still_in_order` meets its contract.
use mathlib.Core.Path.{sym, ◌∙◌}
use Rattle.trailing.proofs.InOrder.{still_not, still_yes}
use Rattle.trailing.proofs.still_in_order.Goals as goal

pub returns-then-is_before : goal.returns-then-is_before
returns-then-is_before c = sym (still_not _ _ _ (sym c.is_before.ensures ∙ c.if-is_before.true))

pub returns : goal.returns
returns c = sym (still_yes _ _ _ (sym c.is_before.ensures ∙ c.if-is_before.false))
