-- `sha1_hash::steps_to` meets its contract. The invariant: r is the state after t steps.
use Rattle.fips180.proofs.Turns.{steps_turn}
use Rattle.sha1_hash.proofs.steps_to.Goals as goal

pub loop-t-preserved : goal.loop-t-preserved
loop-t-preserved c = λ q e. steps_turn _ _ _ _ _ (c.loop-t.invariant q e) c.step-r.ensures
