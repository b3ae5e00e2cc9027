-- `store_calls::clear` meets its contract.
use mathlib.Core.Path.{sym, ◌∙◌}
use native.Mathlib.Omega.{arith}
use Rattle.store_words.proofs.ChainsOf.{well_formed_room}
use Rattle.error.specs.Answer.{told_answer}
use Rattle.store_calls.proofs.ClearedStore.{some_records, clear_unformed, clear_done}
use Rattle.store_calls.proofs.clear.Goals as goal

pub returns-then-not-well_formed : goal.returns-then-not-well_formed
unfolding told_answer
returns-then-not-well_formed c =
    let o = clear_unformed _ _ (sym c.well_formed-2.ensures ∙ c.if-not-well_formed.true) in
    record {
      answer_value = o.0;
      path_value = o.1.0;
      s_after = o.1.1;
    }

pub bounds-s-0 : goal.bounds-s-0
bounds-s-0 c = omega (
  arith,
  (well_formed_room _
      (sym c.well_formed-2.ensures ∙ c.if-not-well_formed.false)).room,
)

pub bounds-s-3 : goal.bounds-s-3
bounds-s-3 c =
    omega (arith, (well_formed_room _ (sym c.well_formed-2.ensures ∙ c.if-not-well_formed.false)).room)

pub lay_out-requires : goal.lay_out-requires
lay_out-requires c =
    let e = sym c.well_formed-2.ensures ∙ c.if-not-well_formed.false in
    (some_records _ e, well_formed_room _ e)

pub returns : goal.returns
unfolding told_answer
returns c =
    let done = clear_done _ _ _ _ (sym c.well_formed-2.ensures ∙ c.if-not-well_formed.false) c.lay_out.ensures
    c.closed-reset.ensures in
    record {
      answer_value = done.0;
      path_value = done.1.0;
      s_after = done.1.1;
    }
