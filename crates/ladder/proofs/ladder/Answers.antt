-- `ladder::ladder` meets its contract: refused by a question, or the entries of the stops by sequence listed.
use mathlib.Core.List.{map}
use native.Mathlib.Omega.{arith}
use lib.ListN.{get_or, length-map}
use Rattle.error.proofs.Verdicts.{all_yes, one_no}
use Rattle.book.proofs.BySequence.{by_sequence_holds}
use Rattle.error.specs.Answer.{told_answer}
use Rattle.book.specs.BySequence.{by_sequence}
use Rattle.book.specs.Words.{book_of}
use Rattle.by_sequence.proofs.Sequenced.{indices-named, begins_count, begins_inside}
use Rattle.pricelevel.specs.Price.{to_price}
use Rattle.store_words.proofs.ChainsOf.{well_formed_room}
use Rattle.ladder.proofs.Outcomes.{ladder-formed, ladder_few, ladder_room, ladder_refused, ladder_done}
use Rattle.ladder.proofs.ladder.Goals as goal

pub bounds-s-0 : goal.bounds-s-0
bounds-s-0 c =
    let h = all_yes _ _ c.in_default.is c.ask_ladder.ensures in
    omega (arith, (well_formed_room _ (ladder-formed _ _ _ h)).room)

pub by_sequence-k-requires : goal.by_sequence-k-requires
by_sequence-k-requires c =
    let h = all_yes _ _ c.in_default.is c.ask_ladder.ensures in
    let room = well_formed_room _ (ladder-formed _ _ _ h) in
    (room, room.few)

pub list_entries-requires : goal.list_entries-requires
unfolding book_of
list_entries-requires c =
    let w = c.args.s.now in
    let h = all_yes _ _ c.in_default.is c.ask_ladder.ensures in
    let ss = (book_of w).slots in
    let g = c.by_sequence-k.ensures.0 in
    record {
      named = (
        rw g.places (indices-named w (get_or w 0 0) (well_formed_room w (ladder-formed _ w _ h)) (by_sequence ss) (by_sequence_holds ss).in_book),
        begins_inside _ _ _ g,
        omega (arith, begins_count ss _ _ g, ladder_room _ w _ h),
      );
      prices_len_bound = rw length-map at (ladder_few _ w _ h);
    }

pub returns-in-Err : goal.returns-in-Err
unfolding told_answer
returns-in-Err c =
    let g = c.args in
    ladder_refused (map to_price g.prices.now) g.s.now g.list.now _
    (one_no _ _ _ c.in-Err.is c.ask_ladder.ensures)

pub returns : goal.returns
unfolding told_answer book_of
returns c =
    let g = c.args in
    let h = all_yes _ _ c.in_default.is c.ask_ladder.ensures in
    ladder_done (map to_price g.prices.now) g.s.now g.list.now _ _ _ h c.by_sequence-k.ensures.0 c.list_entries.ensures
