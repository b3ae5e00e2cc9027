-- `record_groups::group_of` meets its contract, by what a record is read as.
use mathlib.Core.Path.{sym, ◌∙◌}
use Rattle.book.specs.Words.{entry_at}
use Rattle.book.proofs.Slots.{slot_at_vacant, slot_at_held, side_from_buy, side_from_sell}
use Rattle.record_groups.proofs.group_of.Goals as goal

pub returns-then-quantity-eq0 : goal.returns-then-quantity-eq0
returns-then-quantity-eq0 c = rw (slot_at_vacant _ _ (sym c.word-quantity.ensures ∙ c.if-quantity-eq0.true))

pub returns-then-side-eq0 : goal.returns-then-side-eq0
unfolding entry_at
returns-then-side-eq0 c =
    rw (
      slot_at_held _ _ (λ e. c.if-quantity-eq0.false (c.word-quantity.ensures ∙ e)),
      side_from_buy _ (sym c.word-side.ensures ∙ c.if-side-eq0.true),
    )

pub returns : goal.returns
unfolding entry_at
returns c =
    rw (
      slot_at_held _ _ (λ e. c.if-quantity-eq0.false (c.word-quantity.ensures ∙ e)),
      side_from_sell _ (λ e. c.if-side-eq0.false (c.word-side.ensures ∙ e)),
    )
