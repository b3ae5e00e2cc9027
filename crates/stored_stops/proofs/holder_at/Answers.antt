-- `stored_stops::holder_at` meets its contract.
use Rattle.book.specs.Words.{entry_at}
use Rattle.stored_stops.proofs.holder_at.Goals as goal

pub returns : goal.returns
unfolding entry_at
returns c =
    rw (c.word-first.ensures, c.word-second.ensures, c.word-third.ensures, c.word-fourth.ensures)
