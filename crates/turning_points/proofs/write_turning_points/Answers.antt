-- `turning_points::write_turning_points` meets its contract: the loop keeps `Turning`.
use mathlib.Core.Path.{sym, ◌∙◌}
use native.Mathlib.Omega.{arith}
use lib.ListN.{length-set}
use Rattle.turning_points.proofs.Turning.{turning_one, turning_start, turning_straight, turning_turn, turning_end}
use Rattle.turning_points.proofs.write_turning_points.Goals as goal

pub bounds-list-0 : goal.bounds-list-0
bounds-list-0 c = omega (arith, c.requires)

pub returns-then-prices-eq1 : goal.returns-then-prices-eq1
returns-then-prices-eq1 c =
    turning_one c.args.prices.now c.args.list.now c.if-prices-eq1.true (omega (arith, c.requires))

pub loop-i-init : goal.loop-i-init
loop-i-init c =
    turning_start c.args.prices.now c.args.list.now (omega (arith, c.requires, c.if-prices-eq1.false))
    c.requires.1

pub bounds-list-count : goal.bounds-list-count
bounds-list-count c =
    let s = c.loop-i.invariant in
    omega (arith, s.few, s.most, s.room)

pub loop-i-preserved-then-not-turns_at : goal.loop-i-preserved-then-not-turns_at
loop-i-preserved-then-not-turns_at c =
    let l = c.loop-i.invariant in
    turning_straight l (omega arith)
    (sym c.turns_at.ensures ∙ c.if-not-turns_at.true)

pub loop-i-preserved : goal.loop-i-preserved
loop-i-preserved c =
    let l = c.loop-i.invariant in
    turning_turn l (omega arith)
    (sym c.turns_at.ensures ∙ c.if-not-turns_at.false)

pub bounds-list-count-2 : goal.bounds-list-count-2
bounds-list-count-2 c = let s = c.loop-i.invariant in omega (arith, s.few, s.most, s.room)

pub shape_of-list : goal.shape_of-list
shape_of-list c =
    let l = c.loop-i in
    let g = c.args in
    length-set l.list l.count l.here ∙ l.invariant.size ∙ length-set g.list.now 0 _

pub returns : goal.returns
returns c =
    turning_end c.args.list.now _ c.loop-i.invariant (omega arith)

pub bounds-prices-0 : goal.bounds-prices-0
bounds-prices-0 c = omega (arith, c.requires.0)

pub bounds-prices-0-2 : goal.bounds-prices-0-2
bounds-prices-0-2 c = omega (arith, c.requires.0)

pub bounds-prices-1 : goal.bounds-prices-1
bounds-prices-1 c = omega (arith, c.requires.0, c.if-prices-eq1.false)

pub bounds-prices-i : goal.bounds-prices-i
bounds-prices-i c = omega arith

pub turns_at-requires : goal.turns_at-requires
turns_at-requires c = tt
