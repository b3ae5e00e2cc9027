-- `record_writer::entry_words` meets its contract.
use Rattle.book.specs.Entries.{stop_words}
use Rattle.book.specs.Words.{data_words, with_links}
use Rattle.record_writer.proofs.entry_words.Goals as goal

pub returns : goal.returns
unfolding stop_words data_words with_links
returns c = rw c.stop_words-w.ensures
