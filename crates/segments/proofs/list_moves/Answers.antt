-- `segments::list_moves` meets its contract.
use Rattle.points.proofs.Steps.{sells_room, buys_room, moved_both}
use Rattle.segments.proofs.list_moves.Goals as goal

pub list_moved-middle-requires : goal.list_moved-middle-requires
list_moved-middle-requires c =
    let (b, r, st, room) = c.requires in
    (b, r, st, sells_room _ b _ _ room)

pub list_moved-requires : goal.list_moved-requires
list_moved-requires c =
    let (b, r, st, room) = c.requires in
    (b, r, st, rw c.list_moved-middle.auto.list (buys_room _ _ _ _ _ c.list_moved-middle.ensures _ st room))

pub returns : goal.returns
returns c =
    moved_both _ _ _ _ _ c.list_moved-middle.ensures _ _ c.list_moved.ensures
