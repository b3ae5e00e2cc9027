-- `trailing::ends_in_order` meets its contract.
use mathlib.Core.Path.{sym, ◌∙◌}
use native.Mathlib.Omega.{arith}
use Rattle.trailing.proofs.InOrder.{ends_none, ends_some}
use Rattle.trailing.proofs.ends_in_order.Goals as goal

pub returns-then-i-eq0 : goal.returns-then-i-eq0
returns-then-i-eq0 c = sym (ends_none _ _ _ _ _ c.if-i-eq0.true)

pub rank_of-x-requires : goal.rank_of-x-requires
rank_of-x-requires c = c.requires.named (omega (arith, c.if-i-eq0.false))

pub returns : goal.returns
returns c =
    (rw c.rank_of-x.ensures at c.still_in_order.ensures) ∙ sym (ends_some _ _ _ _ _ c.if-i-eq0.false)
