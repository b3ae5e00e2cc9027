-- `identity_text::hex_groups::put_hex` meets its contract: the digits put are a text put.
use Rattle.text_buffer.proofs.Digits.{digits_put}
use Rattle.identity_text.specs.Identities.{hex_letter}
use borrow.Author.Rules.{rules}
use Rattle.identity_text.proofs.hex_groups.put_hex.Goals as goal

pub returns-clause-put : goal.returns-clause-put
returns-clause-put c = digits_put hex_letter 16 _ _ _ _ _ (c.put_in_base.ensures hex_letter (search rules))
