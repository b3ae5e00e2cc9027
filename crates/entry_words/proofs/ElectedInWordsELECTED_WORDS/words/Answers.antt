-- `words` of an elected entry meets its contract: field by field.
use Rattle.book.specs.Entries.{elected_words}
use Rattle.entry_words.specs.Handed.{handed_words}
use Rattle.entry_words.proofs.ElectedInWordsELECTED_WORDS.words.Goals as goal

pub returns : goal.returns
unfolding handed_words elected_words
returns c =
    rw (
      c.number-3.ensures,
      c.number-2.ensures,
      c.pending_word-pending.ensures,
      c.number.ensures,
      c.limit_words-l.ensures,
    )
