-- `record_form::is_blank` meets its contract. The loop's invariant: what is left of the test is the whole test.
use Prim.Native.Nat.{◌+◌, ◌-◌}
use mathlib.Core.Path.{◌≡◌, refl, sym, ◌∙◌}
use native.Mathlib.Omega.{arith}
use Rattle.book.proofs.Tests.{every_end, every_no, every_yes}
use Rattle.book.specs.Sizes.{record_length}
use Rattle.form_check.specs.Check.{blank}
use Rattle.record_form.proofs.is_blank.Goals as goal

pub loop-k-init : goal.loop-k-init
unfolding blank
loop-k-init c = refl

pub returns-then-not-is_blank_at : goal.returns-then-not-is_blank_at
returns-then-not-is_blank_at c =
    every_no _ _ _ _ c.loop-k.invariant (omega arith) (sym c.is_blank_at.ensures ∙ c.if-not-is_blank_at.true)

pub loop-k-preserved : goal.loop-k-preserved
loop-k-preserved c =
    let left : record_length - c.loop-k.k - 1 ≡ record_length - (c.loop-k.k + 1) = omega arith in
    rw left at (every_yes _ _ _ _ c.loop-k.invariant (omega arith)
    (sym c.is_blank_at.ensures ∙ c.if-not-is_blank_at.false))

pub returns : goal.returns
returns c = every_end _ _ _ _ c.loop-k.invariant (omega arith)
