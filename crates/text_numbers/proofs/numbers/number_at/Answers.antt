-- `text_numbers::numbers::number_at` meets its contract.
use mathlib.Core.Path.{sym}
use Rattle.text_numbers.specs.Numbers.{number_at}
use Rattle.text_numbers.proofs.Digits.{number_next}
use Rattle.text_numbers.proofs.numbers.number_at.Goals as goal

pub returns : goal.returns
unfolding number_at
returns c =
    let e = c.number_between.ensures in (
      rw (sym c.next_word-w.ensures.start_value.0, sym c.next_word-w.ensures.start_value.1) e,
      rw e (rw (number_next _ _ _) c.next_word-w.ensures.start_le_end.1),
    )
