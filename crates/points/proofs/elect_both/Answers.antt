-- `points::elect_both` meets its contract.
use Rattle.points.proofs.Steps.{first_room, second_room, elected_both_lem}
use Rattle.points.proofs.elect_both.Goals as goal

pub elect_on-middle-requires : goal.elect_on-middle-requires
elect_on-middle-requires c =
    let (b, r, st, room) = c.requires in
    (b, r, st, first_room _ _ b _ _ room)

pub elect_on-requires : goal.elect_on-requires
elect_on-requires c =
    let (b, r, st, room) = c.requires in
    let size = c.elect_on-middle.auto.list in (
      _,
      r,
      (c.elect_on-middle.ensures b r st).2,
      rw (c.other-second.ensures, size)
          (second_room _ _ _ _ _ _ c.elect_on-middle.ensures _ st room),
    )

pub returns : goal.returns
returns c =
    elected_both_lem _ _ _ _ _ _ c.elect_on-middle.ensures _ _
    (rw c.other-second.ensures at c.elect_on.ensures)
