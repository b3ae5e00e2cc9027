-- `stored_stops::terms_at` meets its contract.
use Rattle.book.specs.Words.{entry_at}
use Rattle.stored_stops.proofs.terms_at.Goals as goal

pub returns : goal.returns
unfolding entry_at
returns c =
    rw (
      c.side_from-side.ensures,
      c.word.ensures,
      c.word-stop.ensures,
      c.word-watermark.ensures,
      c.word-trail.ensures,
    )
