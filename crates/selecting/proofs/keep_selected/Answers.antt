-- `selecting::keep_selected` meets its contract: the loop keeps `Keeping`.
use mathlib.Core.Path.{sym, ◌∙◌}
use native.Mathlib.Omega.{arith}
use Rattle.selecting.proofs.Keeping.{keeping_start, keeping_record, keeping-passed, keeping_taken, keeping_end}
use Rattle.selecting.specs.Selecting.{selected_in}
use Rattle.selecting.proofs.keep_selected.Goals as goal

pub entry_at-t-requires : goal.entry_at-t-requires
entry_at-t-requires c =
    keeping_record c.requires.1 c.loop-i.invariant (omega arith) c.requires.0

pub loop-i-preserved-then-not-selects : goal.loop-i-preserved-then-not-selects
loop-i-preserved-then-not-selects c =
    keeping-passed c.requires.1 c.loop-i.invariant (omega arith)
    (rw c.entry_at-t.ensures at (sym c.selects.ensures ∙ c.if-not-selects.true))

pub loop-i-preserved : goal.loop-i-preserved
loop-i-preserved c =
    keeping_taken c.requires.1 c.loop-i.invariant (omega arith)
    (rw c.entry_at-t.ensures at (sym c.selects.ensures ∙ c.if-not-selects.false))

pub returns : goal.returns
unfolding selected_in
returns c =
    (keeping_end c.requires.1 c.loop-i.invariant (omega arith), omega arith)

pub loop-i-init : goal.loop-i-init
loop-i-init c = keeping_start c.requires.1
