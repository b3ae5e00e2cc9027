-- `text_pieces::holder::put_word` meets its contract: the digits in base 256.
use Rattle.text_pieces.specs.Pieces.{byte_letter, bytes_of}
use borrow.Author.Rules.{rules}
use Rattle.text_pieces.proofs.holder.put_word.Goals as goal

pub returns : goal.returns
unfolding bytes_of
returns c = c.put_in_base.ensures byte_letter (search rules)
