-- `host_children::stop_trigger_order_id` meets its contract.
use mathlib.Core.Path.{refl}
use Rattle.host_words.proofs.Known.{is_known, is-unknown}
use Rattle.host_words.specs.Answers.{answered, number}
use Rattle.host_children.proofs.stop_trigger_order_id.Goals as goal

pub returns : goal.returns
unfolding number answered
returns c =
    let known = is_known c.id_known.ensures c.if-not-id_known.false in
    rw (known, ← c.id_of-parent.ensures) (refl, rw c.stop_trigger_order_id.ensures at c.id_words.ensures)

pub returns-then-not-id_known : goal.returns-then-not-id_known
unfolding number answered
returns-then-not-id_known c = rw (is-unknown c.id_known.ensures c.if-not-id_known.true) (refl, refl)
