-- `text_identities::spelling::spelled_by` meets its contract: what is left, folded onto what is read, is the whole.
use mathlib.Core.Path.{sym, ◌∙◌}
use borrow.Author.Tests.{eq-eqb}
use native.Mathlib.Omega.{arith}
use Rattle.text_identities.specs.Identities.{spelled_by}
use Rattle.text_identities.proofs.Spellings.{spelled_turn, spelled_fails, spelled_end}
use Rattle.text_identities.proofs.spelling.spelled_by.Goals as goal

pub returns-in_err-n : goal.returns-in_err-n
unfolding spelled_by
returns-in_err-n c =
    rw c.from_residual.ensures
    (sym (spelled_fails _ _ _ _ (omega arith) c.loop-i-test.true c.in_err-n.ensures) ∙ c.loop-i.invariant ∙ simp (eq-eqb _ _ c.if-text-pattern.false))

pub loop-i-preserved : goal.loop-i-preserved
loop-i-preserved c = sym (spelled_turn _ _ _ _ _ (omega arith) c.loop-i-test.true c.in_ok-n.ensures) ∙ c.loop-i.invariant

pub returns : goal.returns
unfolding spelled_by
returns c = sym (spelled_end _ _ _ _ c.loop-i-test.false) ∙ c.loop-i.invariant ∙ simp (eq-eqb _ _ c.if-text-pattern.false)
