-- `text_holders::holder_at` meets its contract.
use mathlib.Core.Path.{sym, ap}
use Rattle.text_holders.specs.Holders.{holder_at}
use Rattle.text_holders.proofs.Packing.{holder-within}
use Rattle.text_holders.proofs.holder_at.Goals as goal

pub returns : goal.returns
unfolding holder_at
returns c =
    let e = c.holder_between.ensures in
    let n = c.bad-none.ensures in (
      rw (sym c.next_word-w.ensures.start_value.0, sym c.next_word-w.ensures.start_value.1) (rw n at e),
      holder-within _ _ _ _ _ _ e (ap (λ s. s.next) n) c.next_word-w.ensures.start_le_end.1,
    )
