-- `step_moving` meets its contract: it did what a step does with the room of the list, and the elected are read from
-- their words.
use Rattle.std.proofs.Common.{arith, length, replicate, map, ap, ◌∙◌}
use Rattle.book.specs.Calls.{written}
use Rattle.book.specs.Entries.{moved_words}
use Rattle.book.specs.Sizes.{elected_length}
use Rattle.word_rooms.proofs.Listings.{reads}
use Rattle.lent_step.proofs.Outcomes.{electing}
use Rattle.lent_step.proofs.step_moving.Goals as goal

pub fill-requires : goal.fill-requires
fill-requires c =
    let r = reads (electing c.args.settings c.args.print c.args.s.now (length c.args.moved.now))
    (length c.args.elected.now) (replicate elected_length 0) c.least-room.ensures c.step_words-answer.ensures.2 in
    (omega arith, r.fits _ (cc))

pub returns : goal.returns
returns c =
    let r = reads (electing c.args.settings c.args.print c.args.s.now (length c.args.moved.now))
    (length c.args.elected.now) (replicate elected_length 0) c.least-room.ensures c.step_words-answer.ensures.2 in (
      c.step_words-answer.ensures.0 ∙ ap (λ o. o.answer) r.same,
      c.step_words-answer.ensures.1 ∙ ap (λ o. o.words) r.same,
      c.step_words-answer.ensures.3 ∙ ap (λ o. written (map moved_words o.moved) c.args.moved.now) r.same,
      r.filled _ c.args.elected.now c.fill.new.list c.fill.ensures (cc),
    )
