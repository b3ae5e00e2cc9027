-- `pending_totals::quantity_on` meets its contract, by the test on the record's side.
use mathlib.Core.Path.{sym, ap, ◌∙◌}
use Rattle.pricelevel.specs.Side.{side_number}
use Rattle.book.specs.Words.{side_from}
use Rattle.store_words.proofs.Sums.{quantity_same, quantity-other}
use Rattle.pending_totals.proofs.quantity_on.Goals as goal

pub returns-then-number : goal.returns-then-number
returns-then-number c =
    let own = c.side_from-own.ensures ∙ ap side_from c.word.ensures in
    c.word-quantity.ensures
    ∙ sym (quantity_same _ _ _
    (sym (ap side_number own) ∙ sym c.number.ensures ∙ c.if-number.true
    ∙ c.number-2.ensures))

pub returns : goal.returns
returns c =
    let own = c.side_from-own.ensures ∙ ap side_from c.word.ensures in
    sym (quantity-other _ _ _
    (λ e. c.if-number.false (c.number.ensures ∙ ap side_number own ∙ e
    ∙ sym c.number-2.ensures)))
