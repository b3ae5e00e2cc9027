-- `listing::list_move` meets its contract: the stop changes, or it does not.
use Rattle.listing.proofs.Notes.{move_none, move_room, move_one}
use Rattle.listing.proofs.list_move.Goals as goal

pub returns-then-new_stop-stop : goal.returns-then-new_stop-stop
returns-then-new_stop-stop c =
    move_none _ _ _ c.entry_at-t.ensures _ c.trailed-after.ensures _ _ c.if-new_stop-stop.true

pub bounds-list-at : goal.bounds-list-at
bounds-list-at c =
    move_room _ _ _ c.entry_at-t.ensures _ c.trailed-after.ensures
    c.if-new_stop-stop.false _ _ c.requires.1

pub returns : goal.returns
returns c =
    move_one _ _ _ c.entry_at-t.ensures _ c.trailed-after.ensures _ _
    c.if-new_stop-stop.false _ c.number.ensures
