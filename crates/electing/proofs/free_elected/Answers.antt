-- `electing::free_elected` meets its contract: in each turn the first of the stop chain leaves.
use Prim.Native.Nat.{◌-◌}
use native.Mathlib.Omega.{arith}
use mathlib.Core.Path.{sym, ◌∙◌}
use Rattle.electing.proofs.Turns.{turns_first, turns_chained, turns_end, turns_out, turns_below, turns_record, turns_ready, turns_again}
use Rattle.electing.proofs.free_elected.Goals as goal

pub loop-side-init : goal.loop-side-init
loop-side-init c = let (b, r, count, d) = c.requires in turns_first b r count d

pub first_elected-i-requires : goal.first_elected-i-requires
first_elected-i-requires c = turns_chained c.loop-side.invariant

pub shape_of-s-then-i-eq0 : goal.shape_of-s-then-i-eq0
shape_of-s-then-i-eq0 c = c.loop-side.invariant.size

pub returns-then-i-eq0 : goal.returns-then-i-eq0
returns-then-i-eq0 c = turns_end c.loop-side.invariant (sym c.first_elected-i.ensures ∙ c.if-i-eq0.true)

pub take_out-requires : goal.take_out-requires
take_out-requires c =
    turns_out c.loop-side.invariant c.first_elected-i.ensures c.if-i-eq0.false

pub write_free-requires : goal.write_free-requires
write_free-requires c =
    turns_record c.loop-side.invariant c.first_elected-i.ensures c.if-i-eq0.false c.take_out.ensures.kept
    c.take_out.ensures.by_index

pub push-requires : goal.push-requires
push-requires c =
    turns_ready c.loop-side.invariant c.first_elected-i.ensures c.if-i-eq0.false c.take_out.ensures.kept
    c.take_out.ensures.by_index
    c.write_free.ensures

pub overflow_add-m : goal.overflow_add-m
overflow_add-m c =
    omega (arith, turns_below c.loop-side.invariant c.first_elected-i.ensures c.if-i-eq0.false)

pub loop-side-smaller : goal.loop-side-smaller
loop-side-smaller c =
    omega (arith, turns_below c.loop-side.invariant c.first_elected-i.ensures c.if-i-eq0.false)

pub loop-side-preserved : goal.loop-side-preserved
loop-side-preserved c =
    turns_again c.loop-side.invariant c.first_elected-i.ensures c.if-i-eq0.false c.take_out.ensures.kept
    c.take_out.ensures.by_index
    c.write_free.ensures c.push.ensures.kept c.push.ensures.by_index
