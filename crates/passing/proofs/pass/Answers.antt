-- `passing::pass` meets its contract: each turn takes a segment from the queue, and hands on the part of the script
-- behind the used entries.
use Prim.Native.Nat.{◌-◌}
use mathlib.Core.Path.{sym}
use native.Mathlib.Omega.{arith}
use Rattle.passing.proofs.Passes.{others_at_start, passes_first, passes_queued, count_inside, script-within, segment_asks, moves_word, head_few, passes_next, passes_none, passes_empty}
use Rattle.passing.proofs.pass.Goals as goal

pub loop-next-init : goal.loop-next-init
loop-next-init c =
    let f = c.requires.script_value in let (b, r, st, long) = c.requires.by_index in
    passes_first _ others_at_start (omega arith) f st long

pub slice_bounds-segment_at-end : goal.slice_bounds-segment_at-end
slice_bounds-segment_at-end c = sym c.loop-next.invariant.same_queue

pub segment_at-requires : goal.segment_at-requires
segment_at-requires c = passes_queued c.loop-next.invariant

pub bounds-s-1 : goal.bounds-s-1
bounds-s-1 c = count_inside c.loop-next.invariant

pub overflow_mul-used : goal.overflow_mul-used
overflow_mul-used c =
    record {
      fits = omega (arith, script-within c.loop-next.invariant, c.well_formed.1.1.1.0.0);
    }

pub offset_bounds-script-used : goal.offset_bounds-script-used
offset_bounds-script-used c =
    record {
      fits = omega (arith, script-within c.loop-next.invariant, c.well_formed.1.1.1.0.1);
    }

pub slice_bounds-pass_segment-count : goal.slice_bounds-pass_segment-count
slice_bounds-pass_segment-count c = omega
    (arith, script-within c.loop-next.invariant)

pub slice_bounds-pass_segment-start : goal.slice_bounds-pass_segment-start
slice_bounds-pass_segment-start c =
    omega (arith, script-within c.loop-next.invariant)

pub slice_bounds-pass_segment-end-in-loop-next : goal.slice_bounds-pass_segment-end-in-loop-next
slice_bounds-pass_segment-end-in-loop-next c =
    sym c.loop-next.invariant.same_queue

pub pass_segment-run-requires : goal.pass_segment-run-requires
pass_segment-run-requires c =
    record {
      script_value = (segment_asks c.loop-next.invariant).0;
      by_index = (segment_asks c.loop-next.invariant).1;
    }

pub overflow_add-head : goal.overflow_add-head
overflow_add-head c =
    record {
      fits = omega (arith, head_few c.loop-next.invariant c.in-Some.is c.segment_at.ensures);
    }

pub overflow_add-moves : goal.overflow_add-moves
overflow_add-moves c =
    let h = passes_next c.loop-next.invariant c.in-Some.is c.segment_at.ensures c.if-s-eq0.false
    c.pass_segment-run.ensures
    c.pass_segment-run.auto.s c.pass_segment-run.auto.list
    c.pass_segment-run.auto.queue in
    record { fits = omega (arith, moves_word h) }

pub overflow_add-used : goal.overflow_add-used
overflow_add-used c =
    let h = passes_next c.loop-next.invariant c.in-Some.is c.segment_at.ensures c.if-s-eq0.false
    c.pass_segment-run.ensures
    c.pass_segment-run.auto.s c.pass_segment-run.auto.list
    c.pass_segment-run.auto.queue in
    record { fits = omega (arith, script-within h, c.well_formed.1.1.1.0.0) }

pub loop-next-smaller : goal.loop-next-smaller
loop-next-smaller c =
    omega (arith, head_few c.loop-next.invariant c.in-Some.is c.segment_at.ensures)

pub loop-next-preserved : goal.loop-next-preserved
loop-next-preserved c =
    let h = passes_next c.loop-next.invariant c.in-Some.is c.segment_at.ensures c.if-s-eq0.false
    c.pass_segment-run.ensures
    c.pass_segment-run.auto.s c.pass_segment-run.auto.list
    c.pass_segment-run.auto.queue in
    h

pub returns-in_default : goal.returns-in_default
returns-in_default c =
    passes_none _ others_at_start c.loop-next.invariant c.in_default.is
    c.segment_at.ensures

pub returns-then-s-eq0 : goal.returns-then-s-eq0
returns-then-s-eq0 c =
    passes_empty _ others_at_start c.loop-next.invariant c.if-s-eq0.true
