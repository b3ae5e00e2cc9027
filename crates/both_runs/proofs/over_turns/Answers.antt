-- `both_runs::over_turns` meets its contract: no turning points, or the walk over those that are listed.
use mathlib.Core.List.{map}
use mathlib.Core.Path.{sym}
use lib.ListN.{length}
use lib.Seq.{length-take-le}
use Rattle.error.specs.Answer.{told_answer}
use Rattle.pricelevel.specs.Price.{to_price}
use Rattle.both_runs.proofs.TurnsAndRun.{listed_inside, over_listed, not_listed}
use Rattle.both_runs.proofs.over_turns.Goals as goal

pub slice_bounds-walk-end : goal.slice_bounds-walk-end
unfolding told_answer
slice_bounds-walk-end c =
    let t = c.turning_points-found in
    listed_inside _ _ _ (rw c.in-Ok.is at t.ensures.0) _ _ t.ensures.1

pub slice_bounds-walk-end-in-Ok : goal.slice_bounds-walk-end-in-Ok
unfolding told_answer
slice_bounds-walk-end-in-Ok c =
    let t = c.turning_points-found in
    sym (length-take-le _ _ (listed_inside _ _ _ (rw c.in-Ok.is at t.ensures.0) _ _ t.ensures.1))

pub returns-in-Err : goal.returns-in-Err
unfolding told_answer
returns-in-Err c =
    let t = c.turning_points-found in
    let g = c.args in
    let n = not_listed g.settings g.prev (map to_price g.prices.now) _ g.s.now g.elected.now _
    (rw c.in-Err.is at t.ensures.0) in
    (n.0, n.1, n.2, t.ensures.1)

pub returns-in-Ok : goal.returns-in-Ok
unfolding told_answer
returns-in-Ok c =
    let t = c.turning_points-found in
    let g = c.args in
    let e = over_listed (map to_price g.prices.now) _ _ (rw c.in-Ok.is at t.ensures.0) _ _ t.ensures.1
    g.settings g.prev g.s.now (length g.elected.now) in
    let d = rw e at c.walk.ensures in
    (d.0, d.1, d.2, t.ensures.1)
