-- `store_calls::cancel_pending_stop` meets its contract: each return is a case of the definition.
use mathlib.Core.Path.{sym, ◌∙◌}
use native.Mathlib.Omega.{arith}
use borrow.Author.Rules.{rules}
use Rattle.book.specs.Words.{book_of}
use Rattle.store_words.proofs.ChainsOf.{well_formed_room}
use Rattle.std.proofs.lemmas.Result.{err_from_is_err_and}
use Rattle.error.proofs.Verdicts.{all_yes, one_no}
use Rattle.error.specs.Answer.{told_answer}
use Rattle.error.specs.Verdict.{told_verdict}
use Rattle.store_calls.proofs.Asked.{asked_yes, asked_no}
use Rattle.pending_stops.proofs.Found.{beyond, well_formed-stored, missing, found, found_record, found_member}
use Rattle.store_calls.proofs.Cancel.{cancel_unformed, cancel-missing, cancel_refused_as, cancel_done}
use Rattle.store_calls.proofs.cancel_pending_stop.Goals as goal

pub returns-in_err-ask : goal.returns-in_err-ask
unfolding told_answer told_verdict
returns-in_err-ask c =
    let p = err_from_is_err_and c.from_residual.result c.from_residual.ensures.1 in
    let no = asked_no 1 _ _ (one_no _ _ _ c.in_err-ask.was c.ask.ensures) in
    let o = cancel_refused_as _ _ 1 (cancel_unformed _ _ (sym c.well_formed-2.ensures ∙ no.0)) in
    record {
      result_value = rw (p.1, p.2, no.1) o.0;
      s_after = o.1;
    }

pub bounds-s-0 : goal.bounds-s-0
unfolding told_verdict
bounds-s-0 c =
    let e = sym c.well_formed-2.ensures ∙ asked_yes 1 _ (all_yes _ _ c.in_ok-ask.was c.ask.ensures) in
    omega (arith, (well_formed_room _ e).room)

pub find_id-i-requires : goal.find_id-i-requires
unfolding told_verdict
find_id-i-requires c =
    (sym c.well_formed-2.ensures ∙ asked_yes 1 _ (all_yes _ _ c.in_ok-ask.was c.ask.ensures), search rules)

pub returns-then-i-eq0 : goal.returns-then-i-eq0
unfolding told_answer told_verdict
returns-then-i-eq0 c =
    let o = cancel_refused_as _ _ 12 (cancel-missing _ _ (sym c.well_formed-2.ensures ∙ asked_yes 1 _ (all_yes _ _ c.in_ok-ask.was c.ask.ensures))
    (missing _ _ _ c.find_id-i.ensures c.if-i-eq0.true)) in
    record {
      result_value = o.0;
      s_after = o.1;
    }

pub entry_at-t-requires : goal.entry_at-t-requires
unfolding told_verdict
entry_at-t-requires c =
    let e = sym c.well_formed-2.ensures ∙ asked_yes 1 _ (all_yes _ _ c.in_ok-ask.was c.ask.ensures) in
    found_record _ e _ _ (found _ _ _ c.find_id-i.ensures c.if-i-eq0.false)

pub vacate-requires : goal.vacate-requires
unfolding told_verdict
vacate-requires c =
    let w = c.args.s.now in
    let e = sym c.well_formed-2.ensures ∙ asked_yes 1 _ (all_yes _ _ c.in_ok-ask.was c.ask.ensures) in (
      book_of w,
      beyond w,
      well_formed-stored w e,
      found_member w e _ _ (found _ _ _ c.find_id-i.ensures c.if-i-eq0.false) _ c.entry_at-t.ensures,
    )

pub returns : goal.returns
unfolding told_answer told_verdict
returns c =
    let w = c.args.s.now in
    let e = sym c.well_formed-2.ensures ∙ asked_yes 1 _ (all_yes _ _ c.in_ok-ask.was c.ask.ensures) in
    let f = found _ _ _ c.find_id-i.ensures c.if-i-eq0.false in
    let done = cancel_done _ w e _ f _ c.entry_at-t.ensures _
    (c.vacate.ensures (book_of w) (beyond w) (well_formed-stored w e) (found_member w e _ _ f _ c.entry_at-t.ensures)) in
    record {
      result_value = done.0;
      s_after = done.1;
    }
