-- `sheet_arguments::argument_at` meets its contract: the texts of the code are those of the definitions.
use Rattle.sheet_words.specs.Words.{on_text, off_text, sell_text, buy_text}
use Rattle.sheet_arguments.specs.Arguments.{argument_at}
use borrow.Author.Rules.{rules}
use Rattle.sheet_arguments.proofs.argument_at.Goals as goal

pub returns-in-98 : goal.returns-in-98
unfolding argument_at on_text off_text
returns-in-98 c = (rw c.in-98.is c.either_at.ensures.0, search rules)

pub returns-in-115 : goal.returns-in-115
unfolding argument_at sell_text buy_text
returns-in-115 c = (rw c.in-115.is c.either_at-in-115.ensures.0, search rules)
