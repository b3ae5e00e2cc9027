-- `sha1_schedule::padded` meets its contract: `Pad` has what stands at each index of a padded message in two parts.
use mathlib.Core.Path.{◌∙◌}
use native.Mathlib.Omega.{arith}
use Rattle.fips180.proofs.Pad.{at_head, at_tail, at_mark, at_zero, at_size}
use Rattle.sha1_schedule.proofs.padded.Goals as goal

pub returns-then-i-head : goal.returns-then-i-head
returns-then-i-head c =
    let a = c.args in at_head a.head.now a.tail.now a.i (omega arith)

pub returns-then-i-n : goal.returns-then-i-n
returns-then-i-n c =
    let a = c.args in at_tail a.head.now a.tail.now a.i
    (omega arith) (omega arith)

pub returns-then-i-n-2 : goal.returns-then-i-n-2
returns-then-i-n-2 c =
    let a = c.args in at_mark a.head.now a.tail.now a.i
    c.if-i-n-2.true

pub returns-then-i-end : goal.returns-then-i-end
returns-then-i-end c =
    let a = c.args in at_zero a.head.now a.tail.now a.i
    (omega arith) (omega arith)

pub returns : goal.returns
returns c =
    let a = c.args in c.length_octet.ensures
    ∙ at_size a.head.now a.tail.now a.i (omega arith) (omega arith)
