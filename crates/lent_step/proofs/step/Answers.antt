-- `step` meets its contract: it did what a step does with the room of the list, and the moved are read from their words.
use Rattle.std.proofs.Common.{arith, length, replicate, ap, ◌∙◌}
use Rattle.book.specs.Calls.{written}
use Rattle.book.specs.Sizes.{moved_length}
use Rattle.word_rooms.proofs.Listings.{reads}
use Rattle.lent_step.proofs.Outcomes.{moving}
use Rattle.lent_step.proofs.step.Goals as goal

pub fill-requires : goal.fill-requires
fill-requires c =
    let r = reads (moving c.args.settings c.args.print c.args.s.now (length c.args.elected.now))
    (length c.args.moved.now) (replicate moved_length 0) c.least-room.ensures c.step_moving-answer.ensures.2 in
    (omega arith, r.fits _ (cc))

pub returns : goal.returns
returns c =
    let r = reads (moving c.args.settings c.args.print c.args.s.now (length c.args.elected.now))
    (length c.args.moved.now) (replicate moved_length 0) c.least-room.ensures c.step_moving-answer.ensures.2 in (
      c.step_moving-answer.ensures.0 ∙ ap (λ o. o.answer) r.same,
      c.step_moving-answer.ensures.1 ∙ ap (λ o. o.words) r.same,
      c.step_moving-answer.ensures.3 ∙ ap (λ o. written o.elected c.args.elected.now) r.same,
      r.filled _ c.args.moved.now c.fill.new.list c.fill.ensures (cc),
    )
