-- `sha1_hash::steps_to` meets its contract. The invariant: r is the state after t steps.
use mathlib.Core.Path.{◌≡◌}
use Rattle.fips180.specs.Fips.{steps}
use Rattle.fips180.specs.declared.State.{State}
use Rattle.sha1_hash.proofs.steps_to.Given as goal

abbrev pub invariant-loop-t : goal.invariant-loop-t
invariant-loop-t l = (q : State) → l.initial.r ≡ steps l.w l.from q → l.r ≡ steps l.w l.t q
