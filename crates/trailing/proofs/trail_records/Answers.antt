-- `trailing::trail_records` meets its contract: each turn trails one more stop of the chain.
use native.Mathlib.Omega.{arith}
use Rattle.book.specs.declared.Chain.TheVariants.{ByWatermark}
use Rattle.resort.proofs.Relinks.{record-cell}
use Rattle.trailing.proofs.TrailWalk.{trailing_begins, names, turn-ends, turn_sorted, turn_record, turn_left, turn_most, turn-written, turn_on}
use Rattle.trailing.proofs.trail_records.Goals as goal

pub loop-price-init : goal.loop-price-init
loop-price-init c = trailing_begins _ _ _ _ _ c.head_of-p.ensures (omega (arith, c.well_formed))

pub next_behind-i-requires : goal.next_behind-i-requires
next_behind-i-requires c =
    let (b, r, st) = c.requires in
    names _ _ _ b r _ st _ _ _ _ (c.loop-price.invariant.walked b r st)

pub shape_of-s-then-i-eq0 : goal.shape_of-s-then-i-eq0
shape_of-s-then-i-eq0 c = c.loop-price.invariant.size

pub returns-then-i-eq0 : goal.returns-then-i-eq0
returns-then-i-eq0 c =
    let v = c.loop-price.invariant in
    let told = c.next_behind-i.ensures in
    record {
      moved_value = turn-ends _ _ _ _ _ _ _ _ _ _ v _ told c.if-i-eq0.true;
      b_value = turn_sorted _ _ _ _ _ _ _ _ _ _ v _ told c.if-i-eq0.true _ c.ends_in_order-ends.ensures;
    }

pub trail_record-moved-requires : goal.trail_record-moved-requires
trail_record-moved-requires c =
    let (b, r, st) = c.requires in
    turn_record _ _ _ _ _ _ _ _ _ _ c.loop-price.invariant _ c.next_behind-i.ensures c.if-i-eq0.false b r st

pub overflow_add-moved : goal.overflow_add-moved
overflow_add-moved c =
    let (b, r, st) = c.requires in
    let v = c.loop-price.invariant in
    let told = c.next_behind-i.ensures in
    let some = turn_left _ _ _ _ _ _ _ _ _ _ v _ told c.if-i-eq0.false b r st in
    let most = turn_most _ _ _ _ _ _ _ _ _ _ v _ told c.if-i-eq0.false _ c.trail_record-moved.ensures.value some in
    omega (arith, (turn_record _ _ _ _ _ _ _ _ _ _ v _ told c.if-i-eq0.false b r st).inside.few)

pub ends_in_order-ends-requires : goal.ends_in_order-ends-requires
ends_in_order-ends-requires c =
    let (b, r, st) = c.requires in
    names _ _ _ b r _ st _ _ _ _ (c.loop-price.invariant.walked b r st)

pub rank_of-x-requires : goal.rank_of-x-requires
rank_of-x-requires c =
    let (b, r, st) = c.requires in
    let v = c.loop-price.invariant in
    let told = c.next_behind-i.ensures in
    let some = turn_left _ _ _ _ _ _ _ _ _ _ v _ told c.if-i-eq0.false b r st in
    turn-written _ _ _ _ _ _ _ _ _ _ v _ told c.if-i-eq0.false _ c.trail_record-moved.ensures.value some _
    c.trail_record-moved.ensures.s_after b r st

pub cell-p-requires : goal.cell-p-requires
cell-p-requires c =
    let (b, r, st) = c.requires in
    record-cell _ _ (ByWatermark c.args.side) _ _
    c.link_of-link.ensures
    (turn_record _ _ _ _ _ _ _ _ _ _ c.loop-price.invariant _ c.next_behind-i.ensures c.if-i-eq0.false b r st)

pub overflow_sub-left : goal.overflow_sub-left
overflow_sub-left c =
    let (b, r, st) = c.requires in
    turn_left _ _ _ _ _ _ _ _ _ _ c.loop-price.invariant _ c.next_behind-i.ensures c.if-i-eq0.false b r st

pub loop-price-smaller : goal.loop-price-smaller
loop-price-smaller c = omega (arith, (let (b, r, st) = c.requires in turn_left _ _ _ _ _ _ _ _ _ _ c.loop-price.invariant _ c.next_behind-i.ensures c.if-i-eq0.false b r st))

pub loop-price-preserved : goal.loop-price-preserved
loop-price-preserved c =
    turn_on _ _ _ _ _ _ _ _ _ _ c.loop-price.invariant _ c.next_behind-i.ensures
    c.if-i-eq0.false _ c.trail_record-moved.ensures.value ((let (b, r, st) = c.requires in turn_left _ _ _ _ _ _ _ _ _ _ c.loop-price.invariant _ c.next_behind-i.ensures c.if-i-eq0.false b r st))
    _ c.trail_record-moved.ensures.s_after _ (rw (← c.link_of-link.ensures) c.cell-p.ensures.value) _
    c.rank_of-x.ensures
    _ c.still_in_order-sorted.ensures
