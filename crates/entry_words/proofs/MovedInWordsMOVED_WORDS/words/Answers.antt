-- `words` of a moved entry meets its contract: field by field.
use Rattle.book.specs.Entries.{moved_words}
use Rattle.entry_words.proofs.MovedInWordsMOVED_WORDS.words.Goals as goal

pub returns : goal.returns
unfolding moved_words
returns c = rw c.number.ensures
