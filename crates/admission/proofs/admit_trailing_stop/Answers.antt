-- `admission::admit_trailing_stop` meets its contract: refused by a question, or admitted into the book.
use mathlib.Core.Path.{sym}
use native.Mathlib.Omega.{arith}
use Rattle.error.proofs.Verdicts.{all_yes, one_no}
use Rattle.book.proofs.Operations.{admission-formed, admission_admissible}
use Rattle.book.specs.Words.{book_of}
use Rattle.pending_stops.proofs.Found.{beyond, well_formed-stored}
use Rattle.store_words.proofs.ChainsOf.{well_formed_room}
use Rattle.error.specs.Answer.{told_answer}
use Rattle.admission.proofs.AdmittedStop.{admit_refused, admit_done}
use Rattle.admission.proofs.admit_trailing_stop.Goals as goal

pub bounds-s-0 : goal.bounds-s-0
bounds-s-0 c =
    let h = all_yes _ _ c.in-Ok.is c.ask_admission-verdict.ensures in
    omega (arith, (well_formed_room _ (admission-formed _ _ _ _ _ _ (sym h))).room)

pub bounds-s-1 : goal.bounds-s-1
bounds-s-1 c =
    let h = all_yes _ _ c.in-Ok.is c.ask_admission-verdict.ensures in
    omega (arith, (well_formed_room _ (admission-formed _ _ _ _ _ _ (sym h))).room)

pub occupy-seq-requires : goal.occupy-seq-requires
occupy-seq-requires c =
    let args = c.args in
    let w = args.s.now in
    let holder = args.holder in
    let h = admission_admissible _ _ _ _ _ holder _ (sym (all_yes _ _ c.in-Ok.is c.ask_admission-verdict.ensures)) in
    (book_of w, beyond w, well_formed-stored w h.0, h.1, h.2)

pub returns-in-Err : goal.returns-in-Err
unfolding told_answer
returns-in-Err c =
    record {
      answer_value = (admit_refused _ _ _ _ _ _ _ _ _ (one_no _ _ _ c.in-Err.is c.ask_admission-verdict.ensures)).0;
      path_value = (admit_refused _ _ _ _ _ _ _ _ _ (one_no _ _ _ c.in-Err.is c.ask_admission-verdict.ensures)).1.0;
      s_after = (admit_refused _ _ _ _ _ _ _ _ _ (one_no _ _ _ c.in-Err.is c.ask_admission-verdict.ensures)).1.1;
    }

pub returns-in-Ok : goal.returns-in-Ok
unfolding told_answer
returns-in-Ok c =
    let args = c.args in
    let w = args.s.now in
    let holder = args.holder in
    let h = all_yes _ _ c.in-Ok.is c.ask_admission-verdict.ensures in
    let q = admission_admissible _ _ _ _ _ holder _ (sym h) in
    let d = c.occupy-seq.ensures (book_of w) (beyond w) (well_formed-stored w q.0) q.1 q.2 in
    record {
      answer_value = (admit_done _ _ _ _ _ _ _ _ h _ d.0 _ c.path_after-after.ensures _ d.1).0;
      path_value = (admit_done _ _ _ _ _ _ _ _ h _ d.0 _ c.path_after-after.ensures _ d.1).1.0;
      s_after = (admit_done _ _ _ _ _ _ _ _ h _ d.0 _ c.path_after-after.ensures _ d.1).1.1;
    }
