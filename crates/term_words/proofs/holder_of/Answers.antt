-- `term_words::holder_of` meets its contract.
use mathlib.Core.Path.{refl}
use Rattle.term_words.proofs.holder_of.Goals as goal

pub returns : goal.returns
returns c = refl
