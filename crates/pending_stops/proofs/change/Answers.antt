-- `pending_stops::change` meets its contract.
use native.Mathlib.Omega.{arith}
use mathlib.Core.Path.{refl}
use Rattle.book.specs.Chains.{chains_of}
use Rattle.pending_stops.proofs.Unchained.{chains_without}
use Rattle.pending_stops.proofs.Replacement.{replacing_on, replacing_record, replacing_ready, replaced_length, replaced-stored}
use Rattle.pending_stops.proofs.Vacancy.{stored_room}
use Rattle.pending_stops.specs.Stored.{replaced}
use Rattle.pending_stops.proofs.change.Goals as goal

pub bounds-s-2 : goal.bounds-s-2
bounds-s-2 c = let (b, r, st, m, v, f) = c.requires in omega (arith, stored_room st)

pub unlink-requires : goal.unlink-requires
unlink-requires c = let (b, r, st, m, v, f) =
    c.requires in (chains_of b, replacing_on _ _ b r st _ _ m _ _ _ v f)

pub write_entry-requires : goal.write_entry-requires
write_entry-requires c =
    let (b, r, st, m, v, f) = c.requires in
    replacing_record _ _ b r st _ _ m _ _ _ v f _ c.unlink.ensures.kept c.unlink.ensures.by_index

pub link-requires : goal.link-requires
link-requires c =
    let (b, r, st, m, v, f) = c.requires in (
      chains_without _ (replaced _ _ _ b),
      replacing_ready _ _ b r st _ _ m _ _ _ v f _ c.unlink.ensures.kept
          c.unlink.ensures.by_index _ c.write_entry.ensures,
    )

pub shape_of-s : goal.shape_of-s
shape_of-s c =
    let (b, r, st, m, v, f) = c.requires in
    replaced_length _ _ b r st _ _ m _ _ _ v f _ c.unlink.ensures.kept
    c.unlink.ensures.by_index _ c.write_entry.ensures _ c.link.ensures.kept

pub returns : goal.returns
returns c =
    λ b r st m v f. replaced-stored _ _ b r st _ _ m _ _ _ v f _ c.unlink.ensures.kept
    c.unlink.ensures.by_index _ c.write_entry.ensures refl _ c.link.ensures.kept
    c.link.ensures.by_index
