-- `script::script_formed` meets its contract: before each turn the script is formed if it is so from entry k on.
use Prim.Native.Nat.{◌+◌, ◌*◌}
use mathlib.Core.Path.{◌≡◌, sym}
use native.Mathlib.Omega.{arith}
use Rattle.book.specs.Sizes.{script_entry_length}
use Rattle.script.proofs.ScriptForm.{formed_whole, formed_start, formed_end, formed_not_printed, formed_not-present, formed_on}
use Rattle.script.proofs.script_formed.Goals as goal

pub returns-then-script-ne0 : goal.returns-then-script-ne0
returns-then-script-ne0 c = sym (formed_whole _ c.if-script-ne0.true)

pub loop-k-init : goal.loop-k-init
loop-k-init c = formed_start _

pub returns-then-script-at-gt1 : goal.returns-then-script-at-gt1
returns-then-script-at-gt1 c = sym (formed_not_printed c.loop-k.invariant (omega arith) c.if-script-at-gt1.true)

pub returns-then-script-at-gt1-2 : goal.returns-then-script-at-gt1-2
returns-then-script-at-gt1-2 c =
    sym (formed_not-present c.loop-k.invariant (omega arith) c.if-script-at-gt1.false c.if-script-at-gt1-2.true)

pub loop-k-preserved : goal.loop-k-preserved
loop-k-preserved c =
    let next : script_entry_length * c.loop-k.k + script_entry_length ≡ script_entry_length * (c.loop-k.k + 1) = omega arith in
    rw next at (formed_on c.loop-k.invariant (omega arith) c.if-script-at-gt1.false c.if-script-at-gt1-2.false)

pub returns : goal.returns
returns c = sym (formed_end c.loop-k.invariant (omega arith))
