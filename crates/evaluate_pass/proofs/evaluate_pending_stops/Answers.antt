-- `evaluate_pass::evaluate_pending_stops` meets its contract: refused by a question, or its pass.
use mathlib.Core.Path.{sym}
use Rattle.std.proofs.lemmas.Result.{err_from_is_err_and}
use Rattle.error.proofs.Verdicts.{all_yes, one_no}
use Rattle.error.specs.Answer.{told_answer}
use Rattle.evaluation.proofs.Passes.{pass_refused, pass_accepted_as}
use Rattle.evaluate_pass.proofs.evaluate_pending_stops.Goals as goal

pub pass_over-requires : goal.pass_over-requires
pass_over-requires c =
    sym (all_yes _ _ c.in_ok-ask_pass.was c.ask_pass.ensures)

pub returns-in_err-ask_pass : goal.returns-in_err-ask_pass
unfolding told_answer
returns-in_err-ask_pass c =
    let p = err_from_is_err_and c.from_residual.result c.from_residual.ensures.1 in
    rw (p.1, p.2)
    (pass_refused _ _ _ _ _ _ (one_no _ _ _ c.in_err-ask_pass.was c.ask_pass.ensures))

pub returns : goal.returns
unfolding told_answer
returns c =
    let h = all_yes _ _ c.in_ok-ask_pass.was c.ask_pass.ensures in
    pass_accepted_as _ _ _ _ _ h _ _ _ c.pass_over.ensures
