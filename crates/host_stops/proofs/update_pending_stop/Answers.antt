-- `host_stops::update_pending_stop` meets its contract.
use mathlib.Core.Path.{refl}
use Rattle.host_words.proofs.Known.{is_known, is-unknown}
use Rattle.host_words.specs.Answers.{answered, number}
use Rattle.host_stops.proofs.update_pending_stop.Goals as goal

pub returns-then-not-update_known : goal.returns-then-not-update_known
unfolding number answered
returns-then-not-update_known c =
    let id = is_known c.id_known.ensures c.if-not-id_known.false in
    let update = is-unknown c.update_known.ensures c.if-not-update_known.true in
    rw (id, update) ((refl, refl), refl)

pub returns : goal.returns
returns c =
    let id = is_known c.id_known.ensures c.if-not-id_known.false in
    let update = is_known c.update_known.ensures c.if-not-update_known.false in
    rw (id, update, ← c.id_of-of.ensures, ← c.update_of-change.ensures, ← c.last_price_of-last.ensures)
    (rw c.update_pending_stop-changed.ensures.result_value at c.answer.ensures, c.update_pending_stop-changed.ensures.s_after)

pub returns-then-not-id_known : goal.returns-then-not-id_known
unfolding number answered
returns-then-not-id_known c = rw (is-unknown c.id_known.ensures c.if-not-id_known.true) ((refl, refl), refl)
