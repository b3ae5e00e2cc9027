-- `changes::update_pending_stop` meets its contract: a cancel, a refusal, or the stop replaced.
use mathlib.Core.Path.{sym, ◌∙◌}
use native.Mathlib.Omega.{arith}
use Rattle.std.proofs.lemmas.Result.{err_from_is_err_and}
use Rattle.error.proofs.Verdicts.{all_yes, one_no}
use Rattle.book.proofs.ChangedBook.{change_changeable}
use Rattle.book.specs.Words.{book_of}
use Rattle.pending_stops.proofs.Found.{beyond, well_formed-stored, missing, found, found_record, found_member}
use Rattle.store_words.proofs.ChainsOf.{well_formed_room}
use Rattle.error.specs.Answer.{told_answer}
use Rattle.admission.proofs.AdmissionQuestions.{next_word_lem}
use Rattle.changes.proofs.ChangedStop.{outcome_parts, update-cancels, update_unformed, update-missing, update_refused, replaced-valid, replaced_fits, update_done}
use borrow.Author.Rules.{rules}
use Rattle.changes.proofs.update_pending_stop.Goals as goal

pub returns-then-cancels : goal.returns-then-cancels
returns-then-cancels c =
    let o = outcome_parts _ _ (update-cancels _ _ _ _ (sym c.cancels.ensures ∙ c.if-cancels.true)) in
    record {
      result_value = c.cancel_pending_stop.ensures.result_value ∙ o.0;
      s_after = c.cancel_pending_stop.ensures.s_after ∙ o.1;
    }

pub returns-then-not-well_formed : goal.returns-then-not-well_formed
unfolding told_answer
returns-then-not-well_formed c =
    let o = outcome_parts _ _ (update_unformed _ _ _ _ (sym c.well_formed-2.ensures ∙ c.if-not-well_formed.true)) in
    record {
      result_value = o.0;
      s_after = o.1;
    }

pub bounds-s-0 : goal.bounds-s-0
bounds-s-0 c =
    omega (arith, (well_formed_room _ (sym c.well_formed-2.ensures ∙ c.if-not-well_formed.false)).room)

pub find_id-at-requires : goal.find_id-at-requires
find_id-at-requires c =
    (sym c.well_formed-2.ensures ∙ c.if-not-well_formed.false, search rules)

pub returns-then-at-eq0 : goal.returns-then-at-eq0
unfolding told_answer
returns-then-at-eq0 c =
    let o = outcome_parts _ _ (update-missing _ _ _ _ (sym c.well_formed-2.ensures ∙ c.if-not-well_formed.false)
    (missing _ _ _ c.find_id-at.ensures c.if-at-eq0.true)) in
    record {
      result_value = o.0;
      s_after = o.1;
    }

pub entry_at-t-requires : goal.entry_at-t-requires
entry_at-t-requires c =
    found_record _ (sym c.well_formed-2.ensures ∙ c.if-not-well_formed.false) _ _
    (found _ _ _ c.find_id-at.ensures c.if-at-eq0.false)

pub bounds-s-2 : goal.bounds-s-2
bounds-s-2 c =
    omega (arith, (well_formed_room _ (sym c.well_formed-2.ensures ∙ c.if-not-well_formed.false)).room)

pub next_after-after-requires : goal.next_after-after-requires
next_after-after-requires c =
    let w = c.args.s.now in
    let h = all_yes _ _ c.in_ok-ask_change.was (c.ask_change.ensures (book_of w) (next_word_lem w)) in
    λ g. rw (next_word_lem w) at ((change_changeable _ _ _ (book_of w) (sym h)).next_fits g)

pub change-requires : goal.change-requires
change-requires c =
    let w = c.args.s.now in
    let e = sym c.well_formed-2.ensures ∙ c.if-not-well_formed.false in
    let f = found _ _ _ c.find_id-at.ensures c.if-at-eq0.false in
    let h = all_yes _ _ c.in_ok-ask_change.was (c.ask_change.ensures (book_of w) (next_word_lem w)) in
    let others = sym c.cancels.ensures ∙ c.if-cancels.false in
    let is = c.changed_entry-new.ensures (book_of w) (next_word_lem w) in
    let after = c.next_after-after.ensures in (
      book_of w,
      beyond w,
      well_formed-stored w e,
      found_member w e _ _ f _ c.entry_at-t.ensures,
      replaced-valid _ _ _ w e _ f others _ c.entry_at-t.ensures h _ is _ after,
      replaced_fits _ _ _ w e _ f others _ c.entry_at-t.ensures h _ is _ after (record {
        high = omega (arith, c.changed_entry-new.type_inv);
        low = omega (arith, c.changed_entry-new.type_inv);
        stop = omega (arith, c.changed_entry-new.type_inv);
        watermark = omega (arith, c.changed_entry-new.type_inv);
        trail = omega (arith, c.changed_entry-new.type_inv);
        quantity = omega (arith, c.changed_entry-new.type_inv);
        seq = omega (arith, c.changed_entry-new.type_inv);
        holder = record {
          first = omega (arith, c.changed_entry-new.type_inv);
          second = omega (arith, c.changed_entry-new.type_inv);
          third = omega (arith, c.changed_entry-new.type_inv);
          fourth = omega (arith, c.changed_entry-new.type_inv);
        };
      }) (omega (arith, c.next_after-after.type_inv)),
    )

pub returns-in_err-ask_change : goal.returns-in_err-ask_change
unfolding told_answer
returns-in_err-ask_change c =
    let p = err_from_is_err_and c.from_residual.result c.from_residual.ensures.1 in
    rw (p.1, p.2)
    (let w = c.args.s.now in
    let e = sym c.well_formed-2.ensures ∙ c.if-not-well_formed.false in
    let f = found _ _ _ c.find_id-at.ensures c.if-at-eq0.false in
    let others = sym c.cancels.ensures ∙ c.if-cancels.false in
    let o = outcome_parts _ _ (update_refused _ _ _ w e _ f others _ c.entry_at-t.ensures _
    (one_no _ _ _ c.in_err-ask_change.was (c.ask_change.ensures (book_of w) (next_word_lem w)))) in
    record {
      result_value = o.0;
      s_after = o.1;
    })

pub returns : goal.returns
unfolding told_answer
returns c =
    let w = c.args.s.now in
    let e = sym c.well_formed-2.ensures ∙ c.if-not-well_formed.false in
    let f = found _ _ _ c.find_id-at.ensures c.if-at-eq0.false in
    let h = all_yes _ _ c.in_ok-ask_change.was (c.ask_change.ensures (book_of w) (next_word_lem w)) in
    let others = sym c.cancels.ensures ∙ c.if-cancels.false in
    let is = c.changed_entry-new.ensures (book_of w) (next_word_lem w) in
    let after = c.next_after-after.ensures in
    let done = update_done _ _ _ w e _ f others _ c.entry_at-t.ensures h _ is _ after _
    (c.change.ensures (book_of w) (beyond w) (well_formed-stored w e) (found_member w e _ _ f _ c.entry_at-t.ensures)
    (replaced-valid _ _ _ w e _ f others _ c.entry_at-t.ensures h _ is _ after)
    (replaced_fits _ _ _ w e _ f others _ c.entry_at-t.ensures h _ is _ after (record {
      high = omega (arith, c.changed_entry-new.type_inv);
      low = omega (arith, c.changed_entry-new.type_inv);
      stop = omega (arith, c.changed_entry-new.type_inv);
      watermark = omega (arith, c.changed_entry-new.type_inv);
      trail = omega (arith, c.changed_entry-new.type_inv);
      quantity = omega (arith, c.changed_entry-new.type_inv);
      seq = omega (arith, c.changed_entry-new.type_inv);
      holder = record {
        first = omega (arith, c.changed_entry-new.type_inv);
        second = omega (arith, c.changed_entry-new.type_inv);
        third = omega (arith, c.changed_entry-new.type_inv);
        fourth = omega (arith, c.changed_entry-new.type_inv);
      };
    }) (omega (arith, c.next_after-after.type_inv)))) in
    record {
      result_value = done.0;
      s_after = done.1;
    }
