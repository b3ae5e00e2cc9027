-- `sheet_signatures::read_arguments` meets its contract: what is left, put behind what is there, is the whole.
use mathlib.Core.Path.{◌∙◌}
use Rattle.sheet_signatures.proofs.Letters.{left_all, left_turn, left_fault, left_end, left_nothing}
use borrow.Author.Rules.{rules}
use Rattle.sheet_signatures.proofs.read_arguments.Goals as goal

pub loop-letter-init : goal.loop-letter-init
loop-letter-init c = (search rules, search rules, left_all _ _)

pub returns-then-s-ne0 : goal.returns-then-s-ne0
returns-then-s-ne0 c =
    let l = left_fault _ _ _ _ _ _ _ _ c.loop-letter.invariant.2 _ c.loop-letter-test.true c.argument_at-s.ensures.0 c.if-s-ne0.true in
    record {
      fault_value = l.fault;
      column_value = l.column;
      values_after = l.put;
    }

pub loop-letter-preserved : goal.loop-letter-preserved
loop-letter-preserved c = (search rules, search rules, left_turn _ _ _ _ _ _ _ _ c.loop-letter.invariant.2 _ _ _ c.loop-letter-test.true c.argument_at-s.ensures.0 c.if-s-ne0.false c.put_values-next.ensures.values_after c.put_values-next.ensures.value.0)

pub returns : goal.returns
returns c =
    let l = left_end _ _ _ _ _ _ _ _ c.loop-letter.invariant.2 c.loop-letter-test.false in
    record {
      fault_value = c.ended.ensures.0 ∙ l.fault;
      column_value = c.ended.ensures.1 ∙ l.column;
      values_after = left_nothing _ _ _ _ _ _ _ _ c.loop-letter.invariant.2 c.loop-letter-test.false;
    }
