-- `stop_run::run_stop_triggers` meets its contract: refused by a question, idle, or the pass over the segment that it
-- takes.
use native.Mathlib.Omega.{arith}
use mathlib.Core.Path.{sym, ap}
use Rattle.error.proofs.Verdicts.{all_yes, one_no}
use Rattle.store_words.proofs.ChainsOf.{well_formed_room}
use Rattle.error.specs.Answer.{told_answer}
use Rattle.evaluation.proofs.Passes.{pass-formed, run_refused, run_idle, run_taken}
use Rattle.stop_run.proofs.run_stop_triggers.Goals as goal

pub bounds-s-1 : goal.bounds-s-1
bounds-s-1 c =
    let h = all_yes _ _ c.in-Ok.is c.ask_pass-verdict.ensures in
    omega (arith, (well_formed_room _ (pass-formed _ _ _ (sym h))).room)

pub returns-in_default : goal.returns-in_default
unfolding told_answer
returns-in_default c =
    let h = all_yes _ _ c.in-Ok.is c.ask_pass-verdict.ensures in
    run_idle _ _ _ _ _ _ h _ c.next_segment-next.ensures c.in_default.is

pub pass_over-counts-requires : goal.pass_over-counts-requires
pass_over-counts-requires c =
    sym (all_yes _ _ c.in-Ok.is c.ask_pass-verdict.ensures)

pub returns-in-Err : goal.returns-in-Err
unfolding told_answer
returns-in-Err c =
    run_refused _ _ _ _ _ _ _ (one_no _ _ _ c.in-Err.is c.ask_pass-verdict.ensures)

pub returns-in-Some : goal.returns-in-Some
unfolding told_answer
returns-in-Some c =
    let h = all_yes _ _ c.in-Ok.is c.ask_pass-verdict.ensures in
    run_taken _ _ _ _ _ _ h _ c.next_segment-next.ensures _ c.in-Some.is _ _ _ _
    c.pass_over-counts.ensures c.closed.ensures
