-- `points::point` meets its contract.
use Rattle.points.proofs.PointsOnWords.{point_killed, elected_room, point_done}
use Rattle.points.proofs.point.Goals as goal

pub returns-then-kill : goal.returns-then-kill
returns-then-kill c = rw c.if-kill.true (point_killed _ _ _ _ _ c.trail_both-moves.ensures)

pub elect_both-end-requires : goal.elect_both-end-requires
elect_both-end-requires c =
    let (b, r, st, room) = c.requires in
    (_, r, (c.trail_both-moves.ensures b r st).1, rw c.first_side.ensures (elected_room _ _ b _ _ room))

pub returns : goal.returns
returns c =
    rw c.if-kill.false
    (point_done _ _ _ _ _ c.trail_both-moves.ensures _ _
    (rw c.first_side.ensures at c.elect_both-end.ensures))
