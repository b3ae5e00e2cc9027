-- `pending_stops::vacate` meets its contract.
use native.Mathlib.Omega.{arith}
use mathlib.Core.Path.{refl}
use Rattle.book.specs.Chains.{chains_of}
use Rattle.pending_stops.proofs.Unchained.{chains_without}
use Rattle.pending_stops.proofs.Vacancy.{stored_room, count_some, on1, record2, ready3, blank3, vacated_length, vacated-stored}
use Rattle.pending_stops.proofs.vacate.Goals as goal

pub bounds-s-1 : goal.bounds-s-1
bounds-s-1 c = let (b, r, st, m) = c.requires in omega (arith, stored_room st)

pub overflow_sub-s : goal.overflow_sub-s
overflow_sub-s c = let (b, r, st, m) = c.requires in omega (arith, count_some _ _ b r st _ _ m, m.from)

pub bounds-s-1-2 : goal.bounds-s-1-2
bounds-s-1-2 c = let (b, r, st, m) = c.requires in omega (arith, stored_room st)

pub unlink-requires : goal.unlink-requires
unlink-requires c = let (b, r, st, m) = c.requires in (chains_of b, on1 _ _ b r st _ _ m _)

pub write_free-requires : goal.write_free-requires
write_free-requires c =
    let (b, r, st, m) = c.requires in
    record2 _ _ b r st _ _ m _ _ c.unlink.ensures.kept c.unlink.ensures.by_index

pub push-requires : goal.push-requires
push-requires c =
    let (b, r, st, m) = c.requires in (
      chains_without _ b,
      ready3 _ _ b r st _ _ m _ _ c.unlink.ensures.kept
          c.unlink.ensures.by_index _ c.write_free.ensures,
      blank3 _ _ b r st _ _ m _ _ c.unlink.ensures.kept
          c.unlink.ensures.by_index _ c.write_free.ensures,
    )

pub shape_of-s : goal.shape_of-s
shape_of-s c =
    let (b, r, st, m) = c.requires in
    vacated_length _ _ b r st _ _ m _ _ c.unlink.ensures.kept
    c.unlink.ensures.by_index _ c.write_free.ensures _ c.push.ensures.kept

pub returns : goal.returns
returns c =
    λ b r st m. vacated-stored _ _ b r st _ _ m _ _ c.unlink.ensures.kept
    c.unlink.ensures.by_index _ c.write_free.ensures refl _ c.push.ensures.kept
    c.push.ensures.by_index
