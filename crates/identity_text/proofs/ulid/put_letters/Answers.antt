-- `identity_text::ulid::put_letters` meets its contract: the digits put are a text put.
use Rattle.text_buffer.proofs.Digits.{digits_put}
use Rattle.identity_text.specs.Identities.{crockford}
use borrow.Author.Rules.{rules}
use Rattle.identity_text.proofs.ulid.put_letters.Goals as goal

pub returns-clause-put : goal.returns-clause-put
returns-clause-put c = digits_put crockford 32 _ _ _ _ _ (c.put_in_base.ensures crockford (search rules))
