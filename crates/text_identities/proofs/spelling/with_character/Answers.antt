-- `text_identities::spelling::with_character` meets its contract.
use Rattle.text_identities.proofs.Spellings.{four_bits}
use Rattle.text_identities.proofs.spelling.with_character.Goals as goal

pub behind-requires-clause-digit : goal.behind-requires-clause-digit
behind-requires-clause-digit c = four_bits _ _ _ c.most_of.ensures.0 c.if-p-eq102.true c.if-d-most_of.false
