-- `sha1_schedule::schedule` meets its contract. The invariant: the first t words of the array are the schedule's first t.
use mathlib.Core.Path.{◌≡◌, refl, sym, ◌∙◌}
use native.Mathlib.Omega.{arith}
use lib.ListN.{length-set}
use lib.Seq.{take_all}
use Rattle.fips180.proofs.Turns.{schedule_turn}
use Rattle.fips180.specs.Fips.{schedule}
use Rattle.sha1_schedule.proofs.schedule.Goals as goal

pub loop-t-init : goal.loop-t-init
unfolding schedule
loop-t-init c = (refl, refl)

pub loop-t-preserved : goal.loop-t-preserved
loop-t-preserved c = (
  simp length-set c.loop-t.invariant.0,
  schedule_turn _ _ _ _ _ (omega arith) c.loop-t.invariant.1 c.next_word-x.ensures,
)

pub returns : goal.returns
returns c =
    let e : c.loop-t.t ≡ 80 = omega arith in
    sym (take_all 80 c.loop-t.w (omega arith)) ∙ rw e at c.loop-t.invariant.1
