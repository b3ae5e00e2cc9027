-- `script::put_printed` meets its contract.
use Rattle.script.proofs.PrintedSegment.{printed_none, printed_after, printed_first}
use Rattle.script.proofs.put_printed.Goals as goal
use Rattle.script.proofs.put_printed.Goals.{then-script-at-eq1, else-script-at-eq1}

pub returns-then-script-at-ne1 : goal.returns-then-script-at-ne1
returns-then-script-at-ne1 c = let a = c.args in printed_none a.script.now a.at _ _ c.if-script-at-ne1.true

pub returns : goal.returns
returns c =
    let a = c.args in
    let ne = c.if-script-at-ne1.false in
    elim c.if-script-at-eq1.branch [
      | then-script-at-eq1 w ↦ rw w.prev-is (printed_after a.script.now a.at _ _ ne w.if-script-at-eq1.true)
      | else-script-at-eq1 w ↦ rw w.prev-is (printed_first a.script.now a.at _ _ ne w.if-script-at-eq1.false)
    ]
