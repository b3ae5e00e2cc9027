-- `price_walk::walk_points` meets its contract: each turn is a point at one more price.
use Prim.Native.Nat.{◌-◌}
use native.Mathlib.Omega.{arith}
use Rattle.price_walk.proofs.Walks.{walked_first, walked_room, point-moves_few, walked_next, walked_last}
use Rattle.price_walk.proofs.walk_points.Goals as goal

pub bounds-prices-0 : goal.bounds-prices-0
bounds-prices-0 c = omega (arith, c.requires.in_bounds)

pub overflow_sub-count : goal.overflow_sub-count
overflow_sub-count c = omega (arith, c.requires.in_bounds)

pub offset_bounds-prices-count : goal.offset_bounds-prices-count
offset_bounds-prices-count c = record { fits = omega (arith, c.requires.in_bounds) }

pub bounds-prices-count : goal.bounds-prices-count
bounds-prices-count c = omega (arith, c.requires.in_bounds)

pub loop-i-init : goal.loop-i-init
loop-i-init c = walked_first

pub offset_bounds-prices-i : goal.offset_bounds-prices-i
offset_bounds-prices-i c =
    record {
      fits = omega (arith, c.loop-i-test.true, c.requires.in_bounds);
    }

pub bounds-prices-i : goal.bounds-prices-i
bounds-prices-i c = c.loop-i-test.true

pub point-p-requires : goal.point-p-requires
point-p-requires c =
    let (b, r, st, room) = c.requires.by_index in
    walked_room c.loop-i.invariant st room

pub overflow_add-moves : goal.overflow_add-moves
overflow_add-moves c =
    let (b, r, st, room) = c.requires.by_index in
    let i = c.loop-i-test.true in
    let few = point-moves_few c.loop-i.invariant _ _ _ _ c.point-p.ensures st in
    record {
      fits = omega (arith, few, c.loop-i.invariant.few-moves, i, c.requires.in_bounds);
    }

pub loop-i-preserved : goal.loop-i-preserved
loop-i-preserved c =
    let (b, r, st, room) = c.requires.by_index in
    let i = c.loop-i-test.true in
    walked_next c.loop-i.invariant i _ _ (rw c.sells_first.ensures at c.point-p.ensures) st
    c.point-p.auto.s c.point-p.auto.list

pub shape_of-s : goal.shape_of-s
shape_of-s c = c.loop-i.invariant.words

pub shape_of-list : goal.shape_of-list
shape_of-list c = c.loop-i.invariant.size

pub returns : goal.returns
returns c =
    walked_last c.loop-i.invariant c.falls_to-falls.ensures c.requires.in_bounds.0
    c.loop-i-test.false
