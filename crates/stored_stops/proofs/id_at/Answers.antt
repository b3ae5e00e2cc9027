-- `stored_stops::id_at` meets its contract.
use Rattle.book.specs.Words.{entry_at}
use Rattle.stored_stops.proofs.id_at.Goals as goal

pub returns : goal.returns
unfolding entry_at
returns c =
    rw (c.kind_of-kind.ensures, c.word.ensures, c.word-high.ensures, c.word-low.ensures)
