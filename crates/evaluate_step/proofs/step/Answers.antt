-- `evaluate_step::step` meets its contract: refused by a question, or its moves listed, its point and then its entries
-- completed.
use native.Mathlib.Omega.{arith}
use Rattle.std.proofs.lemmas.Result.{err_from_is_err_and}
use Rattle.error.proofs.Verdicts.{all_yes, one_no}
use Rattle.book.proofs.Walks.{point_points}
use Rattle.error.specs.Answer.{told_answer}
use Rattle.book.specs.Evaluation.{point}
use Rattle.book.specs.StepCall.{stepped}
use Rattle.book.specs.Words.{book_of}
use Rattle.pending_stops.proofs.Found.{beyond, well_formed-stored}
use Rattle.store_words.proofs.ChainsOf.{well_formed_room}
use Rattle.evaluation.proofs.Questions.{step-formed, step_room}
use Rattle.evaluation.proofs.Outcomes.{fills-within, step_refused, step-moves, step_done}
use Rattle.evaluate_step.proofs.step.Goals as goal

pub bounds-s-0 : goal.bounds-s-0
bounds-s-0 c =
    let g = c.args in
    let h = all_yes _ _ c.in_ok-ask_step.was c.ask_step.ensures in
    omega (arith, (well_formed_room _ (step-formed g.s.now _ _ h)).room)

pub list_moves-requires : goal.list_moves-requires
unfolding point
list_moves-requires c =
    let g = c.args in
    let w = g.s.now in
    let h = all_yes _ _ c.in_ok-ask_step.was c.ask_step.ensures in (
      book_of w,
      beyond w,
      well_formed-stored w (step-formed w _ _ h),
      omega (arith, step-moves g.settings g.falls g.from g.price w g.elected.now g.moved.now h),
    )

pub point-o-requires : goal.point-o-requires
point-o-requires c =
    let g = c.args in
    let w = g.s.now in
    let h = all_yes _ _ c.in_ok-ask_step.was c.ask_step.ensures in
    (book_of w, beyond w, well_formed-stored w (step-formed w _ _ h), omega (arith, (step_room w _ _ h).0))

-- whichever side goes first
pub complete-requires : goal.complete-requires
complete-requires c =
    let g = c.args in
    let w = g.s.now in
    let h = all_yes _ _ c.in_ok-ask_step.was c.ask_step.ensures in
    let d = c.point-o.ensures (book_of w) (beyond w) (well_formed-stored w (step-formed w _ _ h)) in
    let after = point g.settings.kill c.sells_first-sells.result g.price (book_of w) in
    record {
      by_index = (after.book, beyond w, d.3);
      to_in_bounds = fills-within g.settings w g.elected.now _ after (point_points _ _ _ _) (step_room w _ _ h).0 _ d.2 _
          (omega (arith, d.1));
    }

pub returns-in_err-ask_step : goal.returns-in_err-ask_step
unfolding told_answer
returns-in_err-ask_step c =
    let p = err_from_is_err_and c.from_residual.result c.from_residual.ensures.1 in
    rw (p.1, p.2)
    (step_refused _ _ _ _ _ _ _ _ (one_no _ _ _ c.in_err-ask_step.was c.ask_step.ensures))

pub returns : goal.returns
unfolding told_answer point
returns c =
    let g = c.args in
    let w = g.s.now in
    let h = all_yes _ _ c.in_ok-ask_step.was c.ask_step.ensures in
    let st = well_formed-stored w (step-formed w _ _ h) in
    let d = rw c.sells_first-sells.ensures at (c.point-o.ensures (book_of w) (beyond w) st) in
    let after = stepped g.settings.kill g.falls g.from g.price (book_of w) in
    let m = c.list_moves.ensures (book_of w) (beyond w) st in
    step_done g.settings g.falls g.from g.price w g.elected.now g.moved.now h _ d.2 _ _ _ _ d.0
    (omega (arith, d.1)) m.1 d.3
    (c.complete.ensures after.book (beyond w) g.elected.now after.fills d.3 d.2 d.1)
