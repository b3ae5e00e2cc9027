-- `children::complete_entry` meets its contract: the words are those of the completed entry.
use mathlib.Core.Path.{ap}
use lib.ListN.{set}
use Rattle.children.proofs.Completed.{completed_words}
use Rattle.children.proofs.complete_entry.Goals as goal

pub returns : goal.returns
returns c =
    let a = c.args in
    λ b r st.
    ap (set a.list.now a.at)
    (completed_words _ b _ _ _ _ _ _ _ c.kind_of.ensures c.side_from.ensures c.limit_under-limit.ensures
    c.stop_trigger_order_id-child.ensures c.limit_words-words.ensures (c.pending_word-pending.ensures b r st))
