-- `evaluate_segment::segment` meets its contract: refused by a question, or its points and then its entries completed.
use native.Mathlib.Omega.{arith}
use Rattle.std.proofs.lemmas.Result.{err_from_is_err_and}
use Rattle.error.proofs.Verdicts.{all_yes, one_no}
use Rattle.book.specs.Evaluation.{segment}
use Rattle.book.specs.Words.{book_of}
use Rattle.pending_stops.proofs.Found.{beyond, well_formed-stored}
use Rattle.store_words.proofs.ChainsOf.{well_formed_room}
use Rattle.error.specs.Answer.{told_answer}
use Rattle.evaluation.proofs.Questions.{segment-formed, segment_room}
use Rattle.evaluation.proofs.Outcomes.{from_start, segment_refused, segment-within, segment_done}
use Rattle.evaluate_segment.proofs.segment.Goals as goal

pub bounds-s-0 : goal.bounds-s-0
bounds-s-0 c =
    let g = c.args in
    let h = all_yes _ _ c.in_ok-ask_segment.was c.ask_segment.ensures in
    omega (arith, (well_formed_room _ (segment-formed g.s.now _ _ h)).room)

pub segment_listed-o-requires : goal.segment_listed-o-requires
segment_listed-o-requires c =
    let g = c.args in
    let w = g.s.now in
    let h = all_yes _ _ c.in_ok-ask_segment.was c.ask_segment.ensures in (
      book_of w,
      beyond w,
      well_formed-stored w (segment-formed w _ _ h),
      (segment_room w _ _ h).0,
      (segment_room w _ _ h).1,
    )

pub complete-requires : goal.complete-requires
complete-requires c =
    let g = c.args in
    let w = g.s.now in
    let h = all_yes _ _ c.in_ok-ask_segment.was c.ask_segment.ensures in
    let d = c.segment_listed-o.ensures (book_of w) (beyond w) (well_formed-stored w (segment-formed w _ _ h)) in
    record {
      by_index = ((segment g.settings.kill g.prints (book_of w)).book, beyond w, d.4);
      to_in_bounds = segment-within g.settings g.prints w g.elected.now g.moved.now h _ d.2 _ d.1;
    }

pub returns-in_err-ask_segment : goal.returns-in_err-ask_segment
unfolding told_answer
returns-in_err-ask_segment c =
    let p = err_from_is_err_and c.from_residual.result c.from_residual.ensures.1 in
    rw (p.1, p.2)
    (segment_refused _ _ _ _ _ _ (one_no _ _ _ c.in_err-ask_segment.was c.ask_segment.ensures))

pub returns : goal.returns
unfolding told_answer
returns c =
    let g = c.args in
    let w = g.s.now in
    let h = all_yes _ _ c.in_ok-ask_segment.was c.ask_segment.ensures in
    let d = c.segment_listed-o.ensures (book_of w) (beyond w) (well_formed-stored w (segment-formed w _ _ h)) in
    segment_done g.settings g.prints w g.elected.now g.moved.now h _ d.2 _ _ _ _ d.0 d.1 d.3
    d.4
    (c.complete.ensures (segment g.settings.kill g.prints (book_of w)).book (beyond w)
    g.elected.now (segment g.settings.kill g.prints (book_of w)).fills d.4 d.2
    (from_start _ _ d.1))
