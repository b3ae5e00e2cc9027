-- `collect::collect` meets its contract: refused by a question, or the selected stops listed.
use native.Mathlib.Omega.{arith}
use Rattle.error.proofs.Verdicts.{all_yes, one_no}
use Rattle.error.specs.Answer.{told_answer}
use Rattle.book.specs.Collect.{collect}
use Rattle.book.specs.Words.{book_of}
use Rattle.store_words.proofs.ChainsOf.{well_formed_room}
use Rattle.collect.proofs.Outcomes.{collect-formed, collect_room, called_refused, called_done}
use Rattle.collect.proofs.collect.Goals as goal

pub bounds-s-0 : goal.bounds-s-0
bounds-s-0 c =
    let h = all_yes _ _ c.in_default.is c.ask_collect.ensures in
    omega (arith, (well_formed_room _ (collect-formed c.args.s.now _ h)).room)

pub list_selected-m-requires : goal.list_selected-m-requires
unfolding book_of
list_selected-m-requires c =
    let w = c.args.s.now in
    let h = all_yes _ _ c.in_default.is c.ask_collect.ensures in
    let room = well_formed_room w (collect-formed w _ h) in
    (room, room.few, collect_room w _ h)

pub returns-in-Err : goal.returns-in-Err
unfolding told_answer collect
returns-in-Err c =
    let g = c.args in
    let r = called_refused g.selector g.s.now g.s.now g.list.now _
    (one_no _ _ _ c.in-Err.is c.ask_collect.ensures) in
    (r.0, r.2)

pub returns : goal.returns
unfolding told_answer collect book_of
returns c =
    let g = c.args in
    let w = g.s.now in
    let h = all_yes _ _ c.in_default.is c.ask_collect.ensures in
    let d = c.list_selected-m.ensures in
    let r = called_done g.selector w w g.list.now _ _ _ h d.0 d.1 in
    (r.0, r.2)
