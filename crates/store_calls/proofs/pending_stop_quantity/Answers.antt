-- `store_calls::pending_stop_quantity` meets its contract.
use mathlib.Core.Path.{sym, ◌∙◌}
use native.Mathlib.Omega.{arith}
use Rattle.store_words.proofs.ChainsOf.{well_formed_room}
use Rattle.std.proofs.lemmas.Result.{err_from_is_err_and}
use Rattle.error.proofs.Verdicts.{all_yes, one_no}
use Rattle.error.specs.Answer.{told_answer}
use Rattle.error.specs.Verdict.{told_verdict}
use Rattle.store_calls.proofs.Asked.{asked_yes, asked_no}
use Rattle.store_calls.proofs.ClearedStore.{quantity_unformed, quantity_done}
use Rattle.store_calls.proofs.pending_stop_quantity.Goals as goal

pub returns-in_err-ask : goal.returns-in_err-ask
unfolding told_answer told_verdict
returns-in_err-ask c =
    let p = err_from_is_err_and c.from_residual.result c.from_residual.ensures.1 in
    let no = asked_no 1 _ _ (one_no _ _ _ c.in_err-ask.was c.ask.ensures) in
    rw (p.1, p.2, no.1) (quantity_unformed _ (sym c.well_formed-2.ensures ∙ no.0))

pub bounds-s-0 : goal.bounds-s-0
unfolding told_verdict
bounds-s-0 c =
    omega (
      arith,
      (well_formed_room _
          (sym c.well_formed-2.ensures ∙ asked_yes 1 _ (all_yes _ _ c.in_ok-ask.was c.ask.ensures))).room,
    )

pub pending_quantity-requires : goal.pending_quantity-requires
unfolding told_verdict
pending_quantity-requires c =
    well_formed_room _ (sym c.well_formed-2.ensures ∙ asked_yes 1 _ (all_yes _ _ c.in_ok-ask.was c.ask.ensures))

pub returns : goal.returns
unfolding told_answer told_verdict
returns c =
    quantity_done _ _ (sym c.well_formed-2.ensures ∙ asked_yes 1 _ (all_yes _ _ c.in_ok-ask.was c.ask.ensures))
    c.pending_quantity.ensures
