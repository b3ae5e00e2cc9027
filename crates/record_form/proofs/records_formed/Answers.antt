-- `record_form::records_formed` meets its contract. The loop's invariant: what is left of the test is the whole test.
use Prim.Native.Nat.{◌+◌, ◌-◌}
use mathlib.Core.Path.{◌≡◌, refl, sym, ◌∙◌}
use native.Mathlib.Omega.{arith}
use Rattle.book.proofs.Tests.{every_end, every_no, every_yes}
use Rattle.record_form.proofs.records_formed.Goals as goal

pub loop-i-init : goal.loop-i-init
loop-i-init c = let all : c.args.n + 1 - 1 ≡ c.args.n = omega arith in rw all

pub returns-then-not-record_formed : goal.returns-then-not-record_formed
returns-then-not-record_formed c =
    every_no _ _ _ _ c.loop-i.invariant (omega arith) (sym c.record_formed.ensures ∙ c.if-not-record_formed.true)

pub loop-i-preserved : goal.loop-i-preserved
loop-i-preserved c =
    let left : c.args.n + 1 - c.loop-i.i - 1 ≡ c.args.n + 1 - (c.loop-i.i + 1) = omega arith in
    rw left at (every_yes _ _ _ _ c.loop-i.invariant (omega arith)
    (sym c.record_formed.ensures ∙ c.if-not-record_formed.false))

pub returns : goal.returns
returns c = every_end _ _ _ _ c.loop-i.invariant (omega arith)
