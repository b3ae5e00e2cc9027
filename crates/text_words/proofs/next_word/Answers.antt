-- `text_words::next_word` meets its contract.
use mathlib.Core.Path.{sym}
use Rattle.text_words.specs.Words.{word_start, word_end, separates, spells}
use borrow.Author.Rules.{rules}
use Rattle.text_words.proofs.next_word.Goals as goal

pub returns : goal.returns
unfolding word_start word_end
returns c =
    let s = c.passed-start.ensures.value separates (search rules) in
    record {
      start_value = (s, rw (sym s) (c.passed.ensures.value spells (search rules)));
      start_le_end = search rules;
    }
