-- `points::trail_both` meets its contract.
use native.Mathlib.Omega.{arith}
use Rattle.points.proofs.Steps.{trailed_both_lem, moves_few}
use Rattle.points.proofs.trail_both.Goals as goal

pub trail-buys-requires : goal.trail-buys-requires
trail-buys-requires c =
    let (b, r, st) = c.requires in
    (_, r, (c.trail-sells.ensures b r st).1)

pub overflow_add-result : goal.overflow_add-result
overflow_add-result c =
    let (b, r, st) = c.requires in
    record { fits = omega (arith, moves_few _ _ c.trail-sells.ensures _ c.trail-buys.ensures b r st) }

pub returns : goal.returns
returns c =
    trailed_both_lem _ _ c.trail-sells.ensures _ c.trail-buys.ensures
