-- `pending_stops::occupy` meets its contract.
use native.Mathlib.Omega.{arith}
use mathlib.Core.Path.{refl}
use lib.ListN.{length-set}
use Rattle.book.specs.Store.{admitted, new_entry}
use Rattle.book.specs.Chains.{chains_of}
use Rattle.pending_stops.proofs.Occupation.{free_first, count_room, next_word_lem, occupying_chained, occupying_record, occupying_ready, occupied_length, occupied-stored}
use Rattle.pending_stops.proofs.Unchained.{chains_without}
use Rattle.pending_stops.proofs.Vacancy.{stored_room}
use Rattle.pending_stops.proofs.occupy.Goals as goal

pub bounds-s-1 : goal.bounds-s-1
bounds-s-1 c = let (b, r, st, a, last) = c.requires in omega (arith, stored_room st)

pub bounds-s-2 : goal.bounds-s-2
bounds-s-2 c = let (b, r, st, a, last) = c.requires in omega (arith, stored_room st)

pub overflow_add-s : goal.overflow_add-s
overflow_add-s c = let (b, r, st, a, last) = c.requires in omega (arith, count_room _ _ b r st a.room)

pub bounds-s-1-2 : goal.bounds-s-1-2
bounds-s-1-2 c = let (b, r, st, a, last) = c.requires in omega (arith, stored_room st)

pub overflow_add-s-2 : goal.overflow_add-s-2
overflow_add-s-2 c = let (b, r, st, a, last) =
    c.requires in omega (arith, last, next_word_lem _ _ b r st a.room)

pub bounds-s-2-2 : goal.bounds-s-2-2
bounds-s-2-2 c = let (b, r, st, a, last) =
    c.requires in simp length-set (omega (arith, stored_room st))

pub pop-i-requires : goal.pop-i-requires
pop-i-requires c =
    let (b, r, st, a, last) = c.requires in (
      chains_of b,
      _,
      _,
      occupying_chained _ _ b r st a.room _ _,
      free_first _ _ b r st a.room,
    )

pub write_entry-requires : goal.write_entry-requires
write_entry-requires c =
    let (b, r, st, a, last) = c.requires in
    occupying_record _ _ b r st _ _ _ _ a _ _ _ c.pop-i.ensures.kept _ c.pop-i.ensures.by_index

pub link-requires : goal.link-requires
link-requires c =
    let (b, r, st, a, last) = c.requires in (
      chains_without _ (admitted (new_entry _ _ _ _ b) b),
      occupying_ready _ _ b r st _ _ _ _ a _ _ _ c.pop-i.ensures.kept _ c.pop-i.ensures.by_index _
          c.write_entry.ensures,
    )

pub shape_of-s : goal.shape_of-s
shape_of-s c =
    let (b, r, st, a, last) = c.requires in
    occupied_length _ _ b r st _ _ _ _ a _ _ _ c.pop-i.ensures.kept _ c.pop-i.ensures.by_index _
    c.write_entry.ensures _ c.link.ensures.kept

pub returns : goal.returns
unfolding new_entry
returns c =
    λ b r st a last. (
      next_word_lem _ _ b r st a.room,
      occupied-stored _ _ b r st _ _ _ _ a _ _ _ c.pop-i.ensures.kept _ c.pop-i.ensures.by_index _
          c.write_entry.ensures
          (record {
            high = omega (arith, c.well_formed);
            low = omega (arith, c.well_formed);
            stop = omega (arith, c.well_formed);
            watermark = omega (arith, c.well_formed);
            trail = omega (arith, c.well_formed);
            quantity = omega (arith, c.well_formed);
            seq = st.fits.next;
            holder = record {
              first = omega (arith, c.well_formed);
              second = omega (arith, c.well_formed);
              third = omega (arith, c.well_formed);
              fourth = omega (arith, c.well_formed);
            };
          })
          last refl refl _ c.link.ensures.kept c.link.ensures.by_index,
    )
