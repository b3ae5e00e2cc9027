-- `host_stops::cancel_pending_stop` meets its contract.
use mathlib.Core.Path.{refl}
use Rattle.host_words.proofs.Known.{is_known, is-unknown}
use Rattle.host_words.specs.Answers.{answered, number}
use Rattle.host_stops.proofs.cancel_pending_stop.Goals as goal

pub returns : goal.returns
returns c =
    let known = is_known c.id_known.ensures c.if-not-id_known.false in
    rw (known, ← c.id_of-of.ensures)
    (rw c.cancel_pending_stop-cancelled.ensures.result_value at c.answer.ensures, c.cancel_pending_stop-cancelled.ensures.s_after)

pub returns-then-not-id_known : goal.returns-then-not-id_known
unfolding number answered
returns-then-not-id_known c = rw (is-unknown c.id_known.ensures c.if-not-id_known.true) ((refl, refl), refl)
