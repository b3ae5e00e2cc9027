-- `walk` meets its contract: it did what a walk does with the room of the list, and the elected are read from their
-- words.
use Rattle.std.proofs.Common.{arith, length, replicate, map, ap, ◌∙◌}
use Rattle.pricelevel.specs.Price.{to_price}
use Rattle.book.specs.Sizes.{elected_length}
use Rattle.word_rooms.proofs.Listings.{reads}
use Rattle.lent_walk.proofs.Outcome.{electing}
use Rattle.lent_walk.proofs.walk.Goals as goal

pub fill-requires : goal.fill-requires
fill-requires c =
    let r = reads (electing c.args.settings c.args.prev (map to_price c.args.prices.now) c.args.s.now)
    (length c.args.elected.now) (replicate elected_length 0) c.least-room.ensures c.walk-answer.ensures.2 in
    (omega arith, r.fits _ (cc))

pub returns : goal.returns
returns c =
    let r = reads (electing c.args.settings c.args.prev (map to_price c.args.prices.now) c.args.s.now)
    (length c.args.elected.now) (replicate elected_length 0) c.least-room.ensures c.walk-answer.ensures.2 in (
      c.walk-answer.ensures.0 ∙ ap (λ o. o.answer) r.same,
      c.walk-answer.ensures.1 ∙ ap (λ o. o.words) r.same,
      r.filled _ c.args.elected.now c.fill.new.list c.fill.ensures (cc),
    )
