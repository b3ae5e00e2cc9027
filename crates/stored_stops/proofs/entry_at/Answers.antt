-- `stored_stops::entry_at` meets its contract.
use Rattle.book.specs.Words.{entry_at}
use Rattle.stored_stops.proofs.entry_at.Goals as goal

pub returns : goal.returns
unfolding entry_at
returns c =
    rw (
      c.id_at-id.ensures,
      c.terms_at-terms.ensures,
      c.word-quantity.ensures,
      c.word-seq.ensures,
      c.holder_at-holder.ensures,
    )
