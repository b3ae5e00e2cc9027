-- A segment is its first point, and, if there is one, the second after it; the moves of both.
use Prim.Native.Nat.{ℕ, ◌+◌, ◌*◌, ◌≤◌}
use native.Mathlib.Omega.{arith}
use mathlib.Core.Path.{◌≡◌, sym, ap}
use mathlib.Core.Bool.{Bool, true}
use mathlib.Core.List.{List, map}
use borrow.Table.Steps.{cases}
use lib.Dec.{eqb}
use lib.ListN.{length}
use lib.Seq.{sets}
use Rattle.pricelevel.specs.declared.Price.{Price}
use Rattle.book.proofs.PointCounts.{point_count, point-moves}
use Rattle.book.proofs.Walks.{then_none}
use Rattle.book.specs.Book.{Book, pending_count}
use Rattle.book.specs.Evaluation.{Evaluated, moved_by, point, sells_first, falls_to, and_then, walk_from, segment}
use Rattle.book.specs.declared.PrintSegment.{PrintSegment}
use Rattle.book.specs.Entries.{moved_words}
use Rattle.listing.specs.ChainEntries.{fill_words}
use Rattle.pending_stops.specs.Stored.{Stored}
use Rattle.points.proofs.PointsOnWords.{Does, does_same, does_then}
use Rattle.points.proofs.Steps.{run_on, ListsMoves}
use Rattle.segments.specs.Segments.{second_point}
use Rattle.std.specs.Prelude.{None, Option, Some}

module _ (kill : Bool) (s : PrintSegment) where
  abbrev pub first_point : Book → Evaluated
  first_point = point kill (sells_first (falls_to s.first s.last) s.prev s.first) s.first

  -- a point at a price arrived from the first
  abbrev pub point_after : Price → Book → Evaluated
  point_after price = point kill (sells_first (falls_to s.first s.last) (Some s.first) price) price

  abbrev pub points_by : Option Price → Book → Evaluated
  points_by None b = first_point b
  points_by (Some price) b = and_then (first_point b) (point_after price (first_point b).book)

  pub segment_by : (k : Option Price) → k ≡ second_point s.first s.last → (b : Book)
      → points_by k b ≡ segment kill s b
  unfolding second_point segment walk_from
  segment_by k e b =
      rw e (cases (eqb s.first.0 s.last.0) (λ f. rw f (sym (then_none _)))
      (λ f. rw f (ap (and_then (first_point b)) (sym (then_none _)))))

  module _ {n : ℕ} {w v : List ℕ} (l k : List (List ℕ)) (at m mid : ℕ)
      (first : Does first_point n w v l k at m mid) where
    pub segment_one : None ≡ second_point s.first s.last → Does (segment kill s) n w v l k at m mid
    segment_one e = does_same (points_by None) (segment kill s) (segment_by None e) l k at m mid first

    pub segment_two : (price : Price) → Some price ≡ second_point s.first s.last
        → {x : List ℕ} (j : List (List ℕ)) (q end : ℕ)
        → Does (point_after price) n v x k j mid q end → Does (segment kill s) n w x l j at (m + q) end
    segment_two price e j q end later =
        does_same (points_by (Some price)) (segment kill s) (segment_by (Some price) e) l j at (m + q) end
        (does_then first_point (point_after price) l k j at m mid q end first later)

------------------------------------------------------------------------
-- The moves

-- there is room for those of the first point
pub first-moves : (price : Price) (b : Book) (room : ℕ) → 2 * pending_count b.slots ≤ room
    → 0 + length (moved_by price b) ≤ room
unfolding point
first-moves price b room h = omega (arith, h, point-moves true true price b)

-- and of the second
pub second-moves : (kill sells : Bool) (price next : Price) {n : ℕ} {w : List ℕ} (l k : List (List ℕ)) (m : ℕ)
    → ListsMoves price n w l k 0 m
    → {b : Book} {r : List ℕ} (room : ℕ) → Stored n w b r → 2 * pending_count b.slots ≤ room
    → m + length (moved_by next (point kill sells price b).book) ≤ room
unfolding point
second-moves kill sells price next l k m lists {b = b} {r = r} room st h =
    let after = (point kill sells price b).book in
    let few = point-moves kill sells price b in
    omega (arith, h, (lists b r st).0, few, point-moves kill sells next after, point_count kill sells price b)

-- the list l of the moved becomes k, as o moves
abbrev pub Notes : (Book → Evaluated) → ℕ → List ℕ → List (List ℕ) → List (List ℕ) → Type 0
Notes o n w l k = (b : Book) (r : List ℕ) → Stored n w b r → k ≡ sets l 0 (map moved_words (o b).moved)

module _ (kill : Bool) (s : PrintSegment) {n : ℕ} {w : List ℕ} (l k : List (List ℕ)) (m : ℕ)
    (lists : ListsMoves s.first n w l k 0 m) where
  pub notes_one : None ≡ second_point s.first s.last → Notes (segment kill s) n w l k
  unfolding point
  notes_one e b r st = rw (← segment_by kill s None e b) (lists b r st).1

  pub notes_two : {v : List ℕ} (i j : List (List ℕ)) (q mid : ℕ) → Does (first_point kill s) n w v i j 0 q mid
      → (price : Price) → Some price ≡ second_point s.first s.last → (x : List (List ℕ)) (end : ℕ)
      → ListsMoves price n v k x m end
      → Notes (segment kill s) n w l x
  unfolding and_then point
  notes_two i j q mid first price e x end more b r st =
      let (f, g) = lists b r st in
      let (h, a) = more _ r (first b r st).3 in
      rw (← segment_by kill s (Some price) e b)
      (run_on moved_words (moved_by s.first b) (moved_by price (first_point kill s b).book) l k x 0 m end f g h a).1

-- both lists
pub listed : (kill : Bool) (s : PrintSegment) {n : ℕ} {w v : List ℕ} (l k i j : List (List ℕ)) (m end : ℕ)
    → Does (segment kill s) n w v l k 0 m end → Notes (segment kill s) n w i j → (b : Book) (r : List ℕ)
    → Stored n w b r
    → (m ≡ length (segment kill s b).moved) × (end ≡ length (segment kill s b).fills)
    × (k ≡ sets l 0 (map fill_words (segment kill s b).fills))
    × (j ≡ sets i 0 (map moved_words (segment kill s b).moved)) × Stored n v (segment kill s b).book r
listed kill s l k i j m end does notes b r st =
    let (e, f, g, done) = does b r st in
    (e, omega (arith, f), g, notes b r st, done)
