-- `pricelevel::Id::eq` meets its contract: each way out has the test that decides it.
use mathlib.Core.Path.{sym, ◌∙◌}
use borrow.Author.Tests.{eq-eqb, ne_eqb}
use Rattle.pricelevel.specs.Identity.{same_id}
use Rattle.pricelevel.proofs.Id.eq.Goals as goal

pub returns-then-number : goal.returns-then-number
unfolding same_id
returns-then-number c = rw (ne_eqb _ _ (λ e. c.if-number.true (c.number.ensures ∙ e ∙ sym c.number-2.ensures)))

pub returns-then-self-other : goal.returns-then-self-other
unfolding same_id
returns-then-self-other c =
    rw (
      eq-eqb _ _ (sym c.number.ensures ∙ c.if-number.false ∙ c.number-2.ensures),
      ne_eqb _ _ c.if-self-other.true,
    )

pub returns : goal.returns
unfolding same_id
returns c =
    rw (
      eq-eqb _ _ (sym c.number.ensures ∙ c.if-number.false ∙ c.number-2.ensures),
      eq-eqb _ _ c.if-self-other.false,
    )
