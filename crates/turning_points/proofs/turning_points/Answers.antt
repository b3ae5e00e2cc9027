-- `turning_points::turning_points` meets its contract: refused by a question, or the turning points written.
use mathlib.Core.List.{map}
use lib.ListN.{length-map}
use Rattle.error.proofs.Verdicts.{all_yes, one_no}
use Rattle.error.specs.Answer.{told_answer}
use Rattle.pricelevel.specs.Price.{to_price}
use Rattle.turning_points.proofs.Outcomes.{accepted_some, accepted_room, turning_points_refused, turning_points_done}
use Rattle.turning_points.proofs.turning_points.Goals as goal

pub write_turning_points-count-requires : goal.write_turning_points-count-requires
write_turning_points-count-requires c =
    let h = all_yes _ _ c.in_default.is c.ask_turning_points.ensures in
    (rw length-map at (accepted_some _ _ h), rw length-map at (accepted_room _ _ h))

pub returns-in-Err : goal.returns-in-Err
unfolding told_answer
returns-in-Err c =
    let g = c.args in
    turning_points_refused (map to_price g.prices.now) g.list.now _
    (one_no _ _ _ c.in-Err.is c.ask_turning_points.ensures)

pub returns : goal.returns
unfolding told_answer
returns c =
    let g = c.args in
    turning_points_done (map to_price g.prices.now) g.list.now _ _
    (all_yes _ _ c.in_default.is c.ask_turning_points.ensures) c.write_turning_points-count.ensures.0
    c.write_turning_points-count.ensures.1
