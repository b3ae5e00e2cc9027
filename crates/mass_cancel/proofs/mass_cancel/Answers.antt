-- `mass_cancel::mass_cancel` meets its contract: refused by a question, or the selected stops listed and then taken out.
use mathlib.Core.Path.{◌∙◌}
use native.Mathlib.Omega.{arith}
use Rattle.error.proofs.Verdicts.{all_yes, one_no}
use Rattle.error.specs.Answer.{told_answer}
use Rattle.book.specs.Collect.{selected, vacated_each, mass_cancel}
use Rattle.book.specs.Store.{stored_book}
use Rattle.book.specs.Words.{book_of}
use Rattle.collect.proofs.Outcomes.{collect-formed, collect_room, called_refused, called_done}
use Rattle.pending_stops.proofs.Found.{beyond, well_formed-stored, stored_words}
use Rattle.store_words.proofs.ChainsOf.{well_formed_room}
use Rattle.mass_cancel.proofs.mass_cancel.Goals as goal

pub bounds-s-0 : goal.bounds-s-0
bounds-s-0 c =
    let h = all_yes _ _ c.in_default.is c.ask_collect.ensures in
    omega (arith, (well_formed_room _ (collect-formed c.args.s.now _ h)).room)

pub list_selected-m-requires : goal.list_selected-m-requires
unfolding book_of
list_selected-m-requires c =
    let w = c.args.s.now in
    let h = all_yes _ _ c.in_default.is c.ask_collect.ensures in
    let room = well_formed_room w (collect-formed w _ h) in
    (room, room.few, collect_room w _ h)

pub cancel_each-requires : goal.cancel_each-requires
unfolding book_of
cancel_each-requires c =
    let g = c.args in
    let w = g.s.now in
    let h = all_yes _ _ c.in_default.is c.ask_collect.ensures in
    (book_of w, beyond w, g.selector, well_formed-stored w (collect-formed w _ h), c.list_selected-m.ensures.0)

pub returns-in-Err : goal.returns-in-Err
unfolding told_answer mass_cancel
returns-in-Err c =
    let g = c.args in
    called_refused g.selector g.s.now _ g.list.now _
    (one_no _ _ _ c.in-Err.is c.ask_collect.ensures)

pub returns : goal.returns
unfolding told_answer mass_cancel book_of
returns c =
    let g = c.args in
    let w = g.s.now in
    let h = all_yes _ _ c.in_default.is c.ask_collect.ensures in
    let d = c.list_selected-m.ensures in
    let st = c.cancel_each.ensures (book_of w) (beyond w) g.selector (well_formed-stored w (collect-formed w _ h)) d.0 in
    let r = called_done g.selector w (stored_book (vacated_each (selected g.selector (book_of w).slots) (book_of w)) w) g.list.now
    _ _ _ h d.0 d.1 in
    (r.0, stored_words w _ _ st ∙ r.1, r.2)
