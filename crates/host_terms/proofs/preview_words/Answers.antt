-- `host_terms::preview_words` meets its contract.
use Rattle.host_terms.proofs.preview_words.Goals as goal

pub returns-in-None : goal.returns-in-None
returns-in-None c = rw c.in-None.is

pub returns-in-Some : goal.returns-in-Some
returns-in-Some c = rw c.in-Some.is
