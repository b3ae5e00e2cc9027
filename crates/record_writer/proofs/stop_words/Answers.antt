-- `record_writer::stop_words` meets its contract.
use Rattle.book.specs.Entries.{stop_words}
use Rattle.book.specs.Words.{data_words}
use Rattle.record_writer.proofs.stop_words.Goals as goal

pub returns : goal.returns
unfolding stop_words data_words
returns c = rw (c.number.ensures, c.number-2.ensures)
