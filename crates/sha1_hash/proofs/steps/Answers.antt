-- `sha1_hash::steps` meets its contract: each part starts where the one before it ends.
use mathlib.Core.Path.{refl}
use Rattle.fips180.specs.Fips.{steps}
use Rattle.sha1_hash.proofs.steps.Goals as goal

pub returns : goal.returns
unfolding steps
returns c =
    c.steps_to.ensures _
    (c.steps_to-third.ensures _ (c.steps_to-second.ensures _ (c.steps_to-first.ensures _ refl)))
