-- `sha1_step::sums` meets its contract: each field is what `sum2` ensures, by congruence.
use Rattle.fips180.specs.Fips.{sums}
use Rattle.sha1_step.proofs.sums.Goals as goal

pub returns : goal.returns
unfolding sums
returns c = cc
