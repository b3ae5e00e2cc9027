-- `words` of a search's answer meets its contract.
use mathlib.Core.Path.{refl}
use Rattle.book.specs.Entries.{stop_words}
use Rattle.book.specs.Words.{data_words}
use Rattle.answer_words.proofs.OptionStopEntryAnsweredFOUND_WORDS.words.Goals as goal

pub returns : goal.returns
unfolding stop_words data_words
returns c = rw (c.in-Some.is, c.stop_words-w.ensures)
