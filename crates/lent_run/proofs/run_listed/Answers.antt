-- `run_listed` meets its contract: it did what a run does with the room of the list, and the elected are read from their
-- words.
use Rattle.std.proofs.Common.{arith, length, replicate, ap, ◌∙◌}
use Rattle.book.specs.Sizes.{elected_length}
use Rattle.word_rooms.proofs.Listings.{reads}
use Rattle.lent_run.proofs.Outcome.{electing}
use Rattle.lent_run.proofs.run_listed.Goals as goal

pub fill-requires : goal.fill-requires
fill-requires c =
    let r = reads (electing c.args.settings c.args.script.now c.args.start c.args.s.now)
    (length c.args.elected.now) (replicate elected_length 0) c.least-room.ensures c.run_words-run.ensures.2 in
    (omega arith, r.fits _ (cc (ap (λ t. t.0) c.run_words-run.ensures.0)))

pub returns : goal.returns
returns c =
    let r = reads (electing c.args.settings c.args.script.now c.args.start c.args.s.now)
    (length c.args.elected.now) (replicate elected_length 0) c.least-room.ensures c.run_words-run.ensures.2 in (
      c.run_words-run.ensures.0 ∙ ap (λ o. (o.answer, o.path)) r.same,
      c.run_words-run.ensures.1 ∙ ap (λ o. o.words) r.same,
      r.filled _ c.args.elected.now c.fill.new.list c.fill.ensures
          (cc (ap (λ t. t.0) c.run_words-run.ensures.0)),
    )
