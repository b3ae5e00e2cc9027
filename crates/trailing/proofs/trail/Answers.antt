-- `trailing::trail` meets its contract.
use native.Mathlib.Omega.{arith}
use Rattle.trailing.proofs.Trailed.{trailed_stops, trailed_watermarks, trailed-stored, trailed_same}
use Rattle.trailing.proofs.TrailWalk.{begins, names, idle-stored}
use Rattle.trailing.proofs.trail.Goals as goal

pub next_behind-requires : goal.next_behind-requires
next_behind-requires c =
    let (b, r, st) = c.requires in
    names _ c.args.side c.args.price b r _ st _ _ _ _ (begins _ _ _ b r _ st _ c.head_of-head.ensures)

pub returns-then-next_behind-eq0 : goal.returns-then-next_behind-eq0
returns-then-next_behind-eq0 c =
    λ b r st. idle-stored _ _ b r _ _ st _ c.head_of-head.ensures _ c.next_behind.ensures
    c.if-next_behind-eq0.true

pub resort-requires : goal.resort-requires
resort-requires c =
    let (b, r, st) = c.requires in
    trailed_stops _ _ b r _ _ st (omega (arith, c.well_formed)) _ (c.trail_records-along.ensures.moved_value b r st).1

pub resort-requires-2 : goal.resort-requires-2
resort-requires-2 c =
    let (b, r, st) = c.requires in
    trailed_watermarks _ _ b r _ _ st (omega (arith, c.well_formed)) _ (c.trail_records-along.ensures.moved_value b r st).1
    _ c.resort.ensures.kept c.resort.ensures.by_index

pub returns-then-along : goal.returns-then-along
returns-then-along c =
    λ b r st. (
      (c.trail_records-along.ensures.moved_value b r st).0,
      trailed_same _ _ b r _ _ st (omega (arith, c.well_formed)) _ (c.trail_records-along.ensures.moved_value b r st).1
          _ c.resort.ensures.kept c.resort.ensures.by_index (c.trail_records-along.ensures.b_value b r st c.if-along.true),
    )

pub returns : goal.returns
returns c =
    λ b r st. (
      (c.trail_records-along.ensures.moved_value b r st).0,
      trailed-stored _ _ b r _ _ st (omega (arith, c.well_formed)) _ (c.trail_records-along.ensures.moved_value b r st).1
          _ c.resort.ensures.kept c.resort.ensures.by_index _ c.resort-2.ensures.kept c.resort-2.ensures.by_index,
    )
