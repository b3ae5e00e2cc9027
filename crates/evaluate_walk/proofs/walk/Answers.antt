-- `evaluate_walk::walk` meets its contract: refused by a question, or its points and then its entries completed.
use native.Mathlib.Omega.{arith}
use mathlib.Core.List.{map}
use lib.ListN.{length-map}
use Rattle.std.proofs.lemmas.Result.{err_from_is_err_and}
use Rattle.error.proofs.Verdicts.{all_yes, one_no}
use Rattle.book.specs.Evaluation.{walk}
use Rattle.book.specs.Words.{book_of}
use Rattle.pending_stops.proofs.Found.{beyond, well_formed-stored}
use Rattle.pricelevel.specs.Price.{to_price}
use Rattle.store_words.proofs.ChainsOf.{well_formed_room}
use Rattle.error.specs.Answer.{told_answer}
use Rattle.evaluation.proofs.Questions.{walk-formed, walk_room, walk_prices}
use Rattle.evaluation.proofs.Outcomes.{from_start, walk_refused, walk-within, walk_done}
use Rattle.evaluate_walk.proofs.walk.Goals as goal

pub bounds-s-0 : goal.bounds-s-0
bounds-s-0 c =
    let g = c.args in
    let h = all_yes _ _ c.in_ok-ask_walk.was c.ask_walk.ensures in
    omega (arith, (well_formed_room _ (walk-formed (map to_price g.prices.now) g.s.now _ h)).room)

pub walk_points-o-requires : goal.walk_points-o-requires
walk_points-o-requires c =
    let g = c.args in
    let w = g.s.now in
    let ps = map to_price g.prices.now in
    let h = all_yes _ _ c.in_ok-ask_walk.was c.ask_walk.ensures in
    let few = walk_prices ps w _ h in
    record {
      by_index = (
        book_of w,
        beyond w,
        well_formed-stored w (walk-formed ps w _ h),
        walk_room ps w _ h,
      );
      in_bounds = (rw length-map at few.0, rw length-map at few.1);
    }

pub complete-requires : goal.complete-requires
complete-requires c =
    let g = c.args in
    let w = g.s.now in
    let ps = map to_price g.prices.now in
    let h = all_yes _ _ c.in_ok-ask_walk.was c.ask_walk.ensures in
    let d = c.walk_points-o.ensures (book_of w) (beyond w) (well_formed-stored w (walk-formed ps w _ h)) in
    record {
      by_index = ((walk g.settings.kill g.prev ps (book_of w)).book, beyond w, d.3);
      to_in_bounds = walk-within g.settings g.prev ps w g.elected.now h _ d.2 _ d.1;
    }

pub returns-in_err-ask_walk : goal.returns-in_err-ask_walk
unfolding told_answer
returns-in_err-ask_walk c =
    let p = err_from_is_err_and c.from_residual.result c.from_residual.ensures.1 in
    rw (p.1, p.2)
    (walk_refused _ _ _ _ _ _ (one_no _ _ _ c.in_err-ask_walk.was c.ask_walk.ensures))

pub returns : goal.returns
unfolding told_answer
returns c =
    let g = c.args in
    let w = g.s.now in
    let ps = map to_price g.prices.now in
    let h = all_yes _ _ c.in_ok-ask_walk.was c.ask_walk.ensures in
    let d = c.walk_points-o.ensures (book_of w) (beyond w) (well_formed-stored w (walk-formed ps w _ h)) in
    walk_done g.settings g.prev ps w g.elected.now h _ d.2 _ _ _ d.0 d.1 d.3
    (c.complete.ensures (walk g.settings.kill g.prev ps (book_of w)).book (beyond w) g.elected.now
    (walk g.settings.kill g.prev ps (book_of w)).fills d.3 d.2 (from_start _ _ d.1))
