-- `sha1_step::step` meets its contract: each field is what a callee ensures, by congruence.
use Rattle.fips180.specs.Fips.{step}
use Rattle.sha1_step.proofs.step.Goals as goal

pub returns : goal.returns
unfolding step
returns c = cc
