-- `text_identities::identities::identity_at` meets its contract.
use mathlib.Core.Path.{sym}
use Rattle.text_identities.specs.Identities.{identity_at}
use Rattle.text_identities.proofs.Spellings.{identity_next}
use Rattle.text_identities.proofs.identities.identity_at.Goals as goal

pub returns : goal.returns
unfolding identity_at
returns c =
    let e = c.identity_between.ensures in (
      rw (sym c.next_word-w.ensures.start_value.0, sym c.next_word-w.ensures.start_value.1) e,
      rw e (rw (identity_next _ _ _) c.next_word-w.ensures.start_le_end.1),
    )
