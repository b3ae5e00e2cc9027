-- `trailing::next_behind` meets its contract.
use mathlib.Core.Path.{sym, ◌∙◌}
use native.Mathlib.Omega.{arith}
use Rattle.trailing.proofs.Behind.{if_behind_none, if_behind_some, if_behind_not}
use Rattle.trailing.proofs.next_behind.Goals as goal

pub returns-then-i-eq0 : goal.returns-then-i-eq0
returns-then-i-eq0 c = sym (if_behind_none _ _ _ _ c.if-i-eq0.true)

pub terms_at-terms-requires : goal.terms_at-terms-requires
terms_at-terms-requires c = c.requires.named (omega (arith, c.if-i-eq0.false))

pub returns-then-is_behind : goal.returns-then-is_behind
returns-then-is_behind c =
    sym (if_behind_some _ _ _ _ c.if-i-eq0.false
    (rw (← c.terms_at-terms.ensures) (sym c.is_behind.ensures ∙ c.if-is_behind.true)))

pub returns : goal.returns
returns c =
    sym (if_behind_not _ _ _ _ c.if-i-eq0.false
    (rw (← c.terms_at-terms.ensures) (sym c.is_behind.ensures ∙ c.if-is_behind.false)))
