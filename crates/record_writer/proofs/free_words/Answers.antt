-- `record_writer::free_words` meets its contract.
use mathlib.Core.Path.{refl}
use Rattle.book.specs.Words.{data_words, with_links}
use Rattle.record_writer.proofs.free_words.Goals as goal

pub returns : goal.returns
unfolding data_words with_links
returns c = refl
