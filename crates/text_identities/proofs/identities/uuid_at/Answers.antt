-- `text_identities::identities::uuid_at` meets its contract.
use mathlib.Core.Path.{sym}
use Rattle.text_identities.specs.Identities.{uuid_at}
use Rattle.text_identities.proofs.Spellings.{uuid_next}
use Rattle.text_identities.proofs.identities.uuid_at.Goals as goal

pub returns : goal.returns
unfolding uuid_at
returns c =
    let e = c.uuid_between.ensures in (
      rw (sym c.next_word-w.ensures.start_value.0, sym c.next_word-w.ensures.start_value.1) e,
      rw e (rw (uuid_next _ _ _) c.next_word-w.ensures.start_le_end.1),
    )
