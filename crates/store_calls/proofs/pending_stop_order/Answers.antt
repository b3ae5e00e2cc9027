-- `store_calls::pending_stop_order` meets its contract: each return is a case of the definition.
use mathlib.Core.Path.{sym, ◌∙◌}
use native.Mathlib.Omega.{arith}
use borrow.Author.Rules.{rules}
use Rattle.store_words.proofs.ChainsOf.{well_formed_room}
use Rattle.error.specs.Answer.{told_answer}
use Rattle.pending_stops.proofs.Found.{missing, found, found_record}
use Rattle.store_calls.proofs.Cancel.{find_unformed, find-missing, find_found}
use Rattle.store_calls.proofs.pending_stop_order.Goals as goal

pub returns-then-not-well_formed : goal.returns-then-not-well_formed
unfolding told_answer
returns-then-not-well_formed c = find_unformed _ _ (sym c.well_formed-2.ensures ∙ c.if-not-well_formed.true)

pub bounds-s-0 : goal.bounds-s-0
bounds-s-0 c =
    omega (arith, (well_formed_room _ (sym c.well_formed-2.ensures ∙ c.if-not-well_formed.false)).room)

pub find_id-at-requires : goal.find_id-at-requires
find_id-at-requires c =
    (sym c.well_formed-2.ensures ∙ c.if-not-well_formed.false, search rules)

pub returns-then-at-eq0 : goal.returns-then-at-eq0
unfolding told_answer
returns-then-at-eq0 c =
    find-missing _ _ (sym c.well_formed-2.ensures ∙ c.if-not-well_formed.false)
    (missing _ _ _ c.find_id-at.ensures c.if-at-eq0.true)

pub entry_at-requires : goal.entry_at-requires
entry_at-requires c =
    let e = sym c.well_formed-2.ensures ∙ c.if-not-well_formed.false in
    found_record _ e _ _ (found _ _ _ c.find_id-at.ensures c.if-at-eq0.false)

pub returns : goal.returns
unfolding told_answer
returns c =
    let e = sym c.well_formed-2.ensures ∙ c.if-not-well_formed.false in
    find_found _ _ e _ (found _ _ _ c.find_id-at.ensures c.if-at-eq0.false) _ c.entry_at.ensures
