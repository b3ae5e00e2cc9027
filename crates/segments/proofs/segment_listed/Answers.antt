-- `segments::segment_listed` meets its contract.
use mathlib.Core.Path.{sym, ◌∙◌}
use native.Mathlib.Omega.{arith}
use Rattle.points.proofs.PointsOnWords.{room_left, point_few}
use Rattle.segments.proofs.TwoPoints.{segment_one, segment_two, first-moves, second-moves, notes_one, notes_two, listed}
use Rattle.segments.proofs.segment_listed.Goals as goal

pub list_moves-middle-requires : goal.list_moves-middle-requires
list_moves-middle-requires c =
    let (b, r, st, room, more) = c.requires in
    (b, r, st, first-moves _ b _ more)

pub point-one-requires : goal.point-one-requires
point-one-requires c =
    let (b, r, st, room, more) =
    c.requires in
    (b, r, st, omega (arith, room))

pub returns-in_default : goal.returns-in_default
returns-in_default c =
    let e = sym c.in_default.is ∙ c.second_point.ensures in
    let first = rw (c.sells_first.ensures, c.falls_to-falls.ensures) at c.point-one.ensures in
    listed _ _ _ _ _ _ _ _ (segment_one _ _ _ _ _ _ _ first e) (notes_one _ _ _ _ _ c.list_moves-middle.ensures e)

pub list_moves-requires : goal.list_moves-requires
list_moves-requires c =
    let (b, r, st, room, more) = c.requires in (
      _,
      r,
      (c.point-one.ensures b r st).3,
      rw c.list_moves-middle.auto.moved
          (second-moves _ _ _ _ _ _ _ c.list_moves-middle.ensures _ st more),
    )

pub point-two-requires : goal.point-two-requires
point-two-requires c =
    let (b, r, st, room, more) =
    c.requires in
    let size = c.point-one.auto.list in (
      _,
      r,
      (c.point-one.ensures b r st).3,
      rw size (room_left _ _ _ _ _ _ _ _ c.point-one.ensures st _ (omega (arith, room))),
    )

pub overflow_add-result : goal.overflow_add-result
overflow_add-result c =
    let (b, r, st, room, more) =
    c.requires in
    let one = point_few _ _ _ _ _ _ _ _ c.point-one.ensures st in
    record { fits = omega (arith, one, point_few _ _ _ _ _ _ _ _ c.point-two.ensures (c.point-one.ensures b r st).3) }

pub shape_of-moved : goal.shape_of-moved
shape_of-moved c =
    c.list_moves.auto.moved ∙ c.list_moves-middle.auto.moved

pub returns : goal.returns
returns c =
    let falls = c.falls_to-falls.ensures in
    let known = sym c.in-Some.is ∙ c.second_point.ensures in
    let first = rw (c.sells_first.ensures, falls) at c.point-one.ensures in
    listed _ _ _ _ _ _ _ _
    (segment_two _ _ _ _ _ _ _ first _ known _ _ _ (rw (c.sells_first-sells.ensures, falls) at c.point-two.ensures))
    (notes_two _ _ _ _ _ c.list_moves-middle.ensures _ _ _ _ first _ known _ _ c.list_moves.ensures)
