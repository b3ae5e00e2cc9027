-- `segments::segment_points` meets its contract.
use mathlib.Core.Path.{sym, ◌∙◌}
use native.Mathlib.Omega.{arith}
use Rattle.points.proofs.PointsOnWords.{room_left, point_few}
use Rattle.segments.proofs.TwoPoints.{segment_one, segment_two}
use Rattle.segments.proofs.segment_points.Goals as goal

pub returns-in_default : goal.returns-in_default
returns-in_default c =
    segment_one _ _ _ _ _ _ _
    (rw (c.sells_first.ensures, c.falls_to-falls.ensures) at c.point-one.ensures)
    (sym c.in_default.is ∙ c.second_point.ensures)

pub point-two-requires : goal.point-two-requires
point-two-requires c =
    let (b, r, st, room) = c.requires in (
      _,
      r,
      (c.point-one.ensures b r st).3,
      rw c.point-one.auto.list
          (room_left _ _ _ _ _ _ _ _ c.point-one.ensures st _ room),
    )

pub overflow_add-result : goal.overflow_add-result
overflow_add-result c =
    let (b, r, st, room) = c.requires in
    let one = point_few _ _ _ _ _ _ _ _ c.point-one.ensures st in
    record { fits = omega (arith, one, point_few _ _ _ _ _ _ _ _ c.point-two.ensures (c.point-one.ensures b r st).3) }

pub returns : goal.returns
returns c =
    let falls = c.falls_to-falls.ensures in
    segment_two _ _ _ _ _ _ _ (rw (c.sells_first.ensures, falls) at c.point-one.ensures) _
    (sym c.in-Some.is ∙ c.second_point.ensures) _ _ _
    (rw (c.sells_first-sells.ensures, falls) at c.point-two.ensures)
