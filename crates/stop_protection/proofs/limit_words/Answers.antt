-- `stop_protection::limit_words` meets its contract: each way out knows the variant.
use Rattle.stop_protection.specs.Collar.{limit_present, limit_high, limit_low}
use Rattle.stop_protection.proofs.limit_words.Goals as goal

pub returns-in_default : goal.returns-in_default
unfolding limit_present limit_high limit_low
returns-in_default c = rw c.in_default.is

pub returns : goal.returns
unfolding limit_present limit_high limit_low
returns c = rw c.in-Some.is
