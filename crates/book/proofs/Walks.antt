-- Points at several prices, a walk and a segment keep a book valid and of words, keep its records, next sequence and
-- tick, and lose as many stops as they elect.
use Prim.Native.Nat.{ℕ, ◌≤◌, ◌<◌, ◌+◌, ◌*◌, ◌^◌}
use mathlib.Core.Path.{◌≡◌, refl, ◌∙◌}
use mathlib.Core.Bool.{Bool, true}
use mathlib.Core.List.{List, [], ◌∷◌, append-nil}
use native.Mathlib.Nat.{suc-mul}
use native.Mathlib.Omega.{arith}
use borrow.Table.Steps.{cases}
use lib.Dec.{eqb}
use lib.ListN.{length, length-append}
use Rattle.pricelevel.specs.declared.Price.{Price}
use Rattle.book.proofs.PointCounts.{point_count, point-moves, point_records}
use Rattle.book.proofs.FreedRecords.{point_free_vacant}
use Rattle.book.proofs.Lists.{all_mapped}
use Rattle.book.specs.Lists.{All}
use Rattle.book.proofs.PointRecord.{settled_sound, settled-all_differ, settled_fits}
use Rattle.book.specs.Valid.{Valid, SlotFits, Fits}
use Rattle.book.specs.Book.{Book, pending_count}
use Rattle.book.specs.Evaluation.{settled, Evaluated, point, sells_first, falls_to, and_then, walk_from, segment_prices, segment, last_of, walk}
use Rattle.book.specs.Words.{sound_stop}
use Rattle.book.specs.declared.PrintSegment.{PrintSegment}
use Rattle.std.specs.Prelude.{Option, Some}

-- what an evaluation leaves alone
pub record Kept (b c : Book) : Type 0 where
  pub records : length c.slots ≡ length b.slots
  pub next : c.next ≡ b.next
  pub tick : c.tick ≡ b.tick

pub kept_trans : (b c d : Book) → Kept b c → Kept c d → Kept b d
kept_trans b c d h k = record { records = k.records ∙ h.records; next = k.next ∙ h.next; tick = k.tick ∙ h.tick }

abbrev pub PriceFits : Price → Type 0
PriceFits p = p.0 < 2 ^ 64

------------------------------------------------------------------------
-- A point

pub point-valid : (kill sells_first : Bool) (price : Price) (b : Book) → Valid b
    → Valid (point kill sells_first price b).book
unfolding point
point-valid kill sells_first price b h = record {
  some_records = rw (point_records kill sells_first price b) h.some_records;
  few_records = rw (point_records kill sells_first price b) h.few_records;
  sound = all_mapped (λ s. sound_stop b.next b.tick s ≡ true) (λ s. sound_stop b.next b.tick s ≡ true)
      (settled kill price)
      (settled_sound b.next b.tick kill price) b.slots h.sound;
  differ = settled-all_differ kill price b.slots h.differ;
  free_vacant = point_free_vacant kill sells_first price b h.free_vacant;
}

pub point_fits : (kill sells_first : Bool) (price : Price) (b : Book) → PriceFits price → Fits b
    → Fits (point kill sells_first price b).book
unfolding point
point_fits kill sells_first price b p h = record {
  next = h.next;
  tick = h.tick;
  slots = all_mapped SlotFits SlotFits (settled kill price) (settled_fits kill price p) b.slots h.slots;
}

pub point_kept : (kill sells_first : Bool) (price : Price) (b : Book) → Kept b (point kill sells_first price b).book
unfolding point
point_kept kill sells_first price b = record {
  records = point_records kill sells_first price b;
  next = refl;
  tick = refl;
}

------------------------------------------------------------------------
-- Points at several prices, one after the other

-- what points at the prices ps, in turn, make of the book b, whichever side goes first at each
pub data PointsAt (kill : Bool) : List Price → Book → Evaluated → Type 0 where
  done : {b : Book} → PointsAt kill [] b (record { book = b; fills = []; moved = [] })
  next : {ps : List Price} {b : Book} {rest : Evaluated} (first : Bool) (p : Price)
      → PointsAt kill ps (point kill first p b).book rest
      → PointsAt kill (p ∷ ps) b (and_then (point kill first p b) rest)

pub walk_from_points : (kill falls : Bool) (from : Option Price) (ps : List Price) (b : Book)
    → PointsAt kill ps b (walk_from kill falls from ps b)
unfolding walk_from
walk_from_points kill falls from [] b = done
walk_from_points kill falls from (p ∷ ps) b =
    next (sells_first falls from p) p
    (walk_from_points kill falls (Some p) ps (point kill (sells_first falls from p) p b).book)

-- nothing after an evaluation
pub then_none : (o : Evaluated) → and_then o (record { book = o.book; fills = []; moved = [] }) ≡ o
unfolding and_then
then_none o = λ i. record { book = o.book; fills = append-nil o.fills i; moved = append-nil o.moved i }

pub point_points : (kill first : Bool) (p : Price) (b : Book) → PointsAt kill (p ∷ []) b (point kill first p b)
point_points kill first p b =
    let o = point kill first p b in
    let h : PointsAt kill (p ∷ []) b (and_then o (record { book = o.book; fills = []; moved = [] })) =
    next first p done in
    rw (then_none o) at h

pub segment_points : (kill : Bool) (s : PrintSegment) (b : Book) → PointsAt kill (segment_prices s) b (segment kill s b)
unfolding segment
segment_points kill s b = walk_from_points kill (falls_to s.first s.last) s.prev (segment_prices s) b

pub walk_points : (kill : Bool) (prev : Option Price) (ps : List Price) (b : Book)
    → PointsAt kill ps b (walk kill prev ps b)
unfolding walk
walk_points kill prev [] b = walk_from_points kill true prev [] b
walk_points kill prev (p ∷ ps) b = walk_from_points kill (falls_to p (last_of p ps)) prev (p ∷ ps) b

module _ (kill : Bool) where
  pub points-valid : {ps : List Price} {b : Book} {o : Evaluated} → PointsAt kill ps b o → Valid b → Valid o.book
  unfolding and_then
  points-valid done h = h
  points-valid {b = b} (next first p r) h = points-valid r (point-valid kill first p b h)

  pub points_fits : {ps : List Price} {b : Book} {o : Evaluated} → PointsAt kill ps b o → All PriceFits ps → Fits b
      → Fits o.book
  unfolding and_then
  points_fits done k h = h
  points_fits {b = b} (next first p r) k h = points_fits r k.1 (point_fits kill first p b k.0 h)

  pub points_kept : {ps : List Price} {b : Book} {o : Evaluated} → PointsAt kill ps b o → Kept b o.book
  unfolding and_then
  points_kept done = record { records = refl; next = refl; tick = refl }
  points_kept {b = b} (next first p r) =
      kept_trans b (point kill first p b).book _ (point_kept kill first p b) (points_kept r)

  pub points_count : {ps : List Price} {b : Book} {o : Evaluated} → PointsAt kill ps b o
      → pending_count b.slots ≡ pending_count o.book.slots + length o.fills
  unfolding and_then
  points_count done = omega arith
  points_count {b = b} (next first p r) = rw length-append (omega (arith, points_count r, point_count kill first p b))

  -- each point moves a stop at most once
  points-moves_below : {ps : List Price} {b : Book} {o : Evaluated} (most : ℕ) → PointsAt kill ps b o
      → pending_count b.slots ≤ most
      → length o.moved ≤ length ps * most
  unfolding and_then
  points-moves_below most done h = omega arith
  points-moves_below {b = b} most (next first p r) h =
      let ih = points-moves_below most r (omega (arith, point_count kill first p b)) in
      rw (length-append, suc-mul) (omega (arith, ih, point-moves kill first p b))

  pub points-moves : {ps : List Price} {b : Book} {o : Evaluated} → PointsAt kill ps b o
      → length o.moved ≤ length ps * pending_count b.slots
  points-moves {b = b} r = points-moves_below (pending_count b.slots) r (omega arith)

------------------------------------------------------------------------
-- The prices of a segment

-- those at which points stand are below 2^64
pub record SegmentFits (s : PrintSegment) : Type 0 where
  pub first : PriceFits s.first
  pub last : PriceFits s.last

pub segment_prices_fits : (s : PrintSegment) → SegmentFits s → All PriceFits (segment_prices s)
segment_prices_fits s h =
    cases (eqb s.first.0 s.last.0) (λ e. rw e (h.first, tt)) (λ e. rw e (h.first, (h.last, tt)))

pub segment-moves : (kill : Bool) (s : PrintSegment) (b : Book)
    → length (segment kill s b).moved ≤ 2 * pending_count b.slots
segment-moves kill s b =
    let h = points-moves kill (segment_points kill s b) in
    cases (eqb s.first.0 s.last.0) (λ e. omega (arith, rw e at h)) (λ e. omega (arith, rw e at h))
