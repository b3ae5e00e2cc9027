-- `evaluation_words::settings_of` meets its contract.
use Rattle.evaluation_words.proofs.settings_of.Goals as goal

pub returns : goal.returns
returns c = rw c.protection_of.ensures
