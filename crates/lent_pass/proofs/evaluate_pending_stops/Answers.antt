-- `evaluate_pending_stops` meets its contract: it did what a pass does with the room of the list, and the elected are
-- read from their words.
use Rattle.std.proofs.Common.{arith, length, replicate, ap, ◌∙◌}
use Rattle.book.specs.Sizes.{elected_length}
use Rattle.word_rooms.proofs.Listings.{reads}
use Rattle.lent_pass.proofs.Outcome.{electing}
use Rattle.lent_pass.proofs.evaluate_pending_stops.Goals as goal

pub fill-requires : goal.fill-requires
fill-requires c =
    let r = reads (electing c.args.settings c.args.script.now c.args.prints c.args.s.now)
    (length c.args.elected.now) (replicate elected_length 0) c.least-room.ensures
    c.evaluate_pending_stops-answer.ensures.2 in
    (omega arith, r.fits _ (cc))

pub returns : goal.returns
returns c =
    let r = reads (electing c.args.settings c.args.script.now c.args.prints c.args.s.now)
    (length c.args.elected.now) (replicate elected_length 0) c.least-room.ensures
    c.evaluate_pending_stops-answer.ensures.2 in (
      c.evaluate_pending_stops-answer.ensures.0 ∙ ap (λ o. o.answer) r.same,
      c.evaluate_pending_stops-answer.ensures.1 ∙ ap (λ o. o.words) r.same,
      r.filled _ c.args.elected.now c.fill.new.list c.fill.ensures (cc),
    )
