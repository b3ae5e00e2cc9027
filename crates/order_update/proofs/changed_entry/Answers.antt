-- `order_update::changed_entry` meets its contract.
use mathlib.Core.Path.{sym, ◌∙◌}
use Rattle.book.specs.Store.{changed_entry}
use Rattle.order_update.proofs.changed_entry.Goals as goal

pub returns-then-takes_sequence : goal.returns-then-takes_sequence
unfolding changed_entry
returns-then-takes_sequence c =
    λ b e. rw (
      c.changed_terms-terms.ensures,
      c.changed_quantity-quantity.ensures,
      e,
      sym c.takes_sequence.ensures
          ∙ c.if-takes_sequence.true,
    )

pub returns-else-takes_sequence : goal.returns-else-takes_sequence
unfolding changed_entry
returns-else-takes_sequence c =
    λ b e. rw (
      c.changed_terms-terms.ensures,
      c.changed_quantity-quantity.ensures,
      e,
      sym c.takes_sequence.ensures
          ∙ c.if-takes_sequence.false,
    )
