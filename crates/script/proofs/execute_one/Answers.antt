-- `script::execute_one` meets its contract.
use native.Mathlib.Omega.{arith}
use lib.ListN.{length-drop}
use Rattle.script.proofs.OneExecution.{entry_left, one_pending, one-missing, one_entry}
use Rattle.script.proofs.execute_one.Goals as goal

pub returns-then-pending-eq1 : goal.returns-then-pending-eq1
returns-then-pending-eq1 c = λ e is. one_pending e _ is _ _ _ _ c.if-pending-eq1.true

pub returns-then-at-script : goal.returns-then-at-script
returns-then-at-script c = λ e is. one-missing e _ is _ _ _ _ (rw length-drop (omega arith))

pub put_printed-end-requires : goal.put_printed-end-requires
put_printed-end-requires c =
    let (f, h, t) = c.requires in
    (entry_left c.args.script.now c.args.used f h c.if-at-script.false, t)

pub returns : goal.returns
returns c =
    let (f, h, t) = c.requires in
    let left = entry_left c.args.script.now c.args.used f h c.if-at-script.false in
    λ e is. one_entry e _ is _ _ _ _ c.if-pending-eq1.false
    (rw length-drop (omega (arith, left))) _ _ c.put_printed-end.ensures
