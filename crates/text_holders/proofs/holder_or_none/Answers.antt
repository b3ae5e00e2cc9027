-- `text_holders::holder_or_none` meets its contract.
use mathlib.Core.Path.{sym, ap}
use Rattle.text_holders.specs.Holders.{holder_or_none}
use Rattle.text_holders.proofs.Packing.{holder-within}
use Rattle.text_holders.proofs.holder_or_none.Goals as goal

pub returns : goal.returns
unfolding holder_or_none
returns c =
    let e = c.holder_between.ensures in
    let n = c.got-none.ensures in (
      rw (sym c.next_word-w.ensures.start_value.0, sym c.next_word-w.ensures.start_value.1) (rw n at e),
      holder-within _ _ _ _ _ _ e (ap (λ s. s.next) n) c.next_word-w.ensures.start_le_end.1,
    )
