-- `records::word` meets its contract.
use Rattle.book.specs.Words.{record_word}
use Rattle.records.proofs.word.Goals as goal

pub returns : goal.returns
unfolding record_word
returns c = cc
