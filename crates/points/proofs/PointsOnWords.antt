-- Points on a store: one, and one after others.
use Prim.Native.Nat.{ℕ, ◌+◌, ◌≤◌}
use native.Mathlib.Omega.{arith}
use mathlib.Core.Path.{◌≡◌, refl, sym, ap, ◌∙◌}
use mathlib.Core.Bool.{Bool, true, false}
use mathlib.Core.List.{List, map, map-map}
use lib.ListN.{length, length-append, length-map}
use lib.Seq.{sets}
use Rattle.pricelevel.specs.declared.Price.{Price}
use Rattle.book.proofs.PointCounts.{point_count, point-moves}
use Rattle.book.specs.Book.{Book, pending_count}
use Rattle.book.specs.Evaluation.{moved_by, fill_at, Evaluated, point, and_then}
use Rattle.book.specs.Sizes.{most_records}
use Rattle.listing.specs.ChainEntries.{fill_words}
use Rattle.pending_stops.specs.Stored.{Stored}
use Rattle.points.proofs.PointSteps.{point_fills, point_book, point_fills_killed, point_book_killed}
use Rattle.points.proofs.Steps.{stored_few, run_on, ElectsBoth}
use Rattle.book.specs.Steps.{first_side, trailed_both, elected_both}

-- the words w become v, and the list l, from a place on, k, as o does it; answered are the moves and where the list
-- goes on
abbrev pub Does : (Book → Evaluated) → ℕ → List ℕ → List ℕ → List (List ℕ) → List (List ℕ) → ℕ → ℕ → ℕ → Type 0
Does o n w v l k at moves end =
    (b : Book) (r : List ℕ) → Stored n w b r
    → (moves ≡ length (o b).moved) × (end ≡ at + length (o b).fills) × (k ≡ sets l at (map fill_words (o b).fills))
    × Stored n v (o b).book r

------------------------------------------------------------------------
-- A point

-- the list has room for its elected
pub elected_room : (sells : Bool) (price : Price) (b : Book) (at room : ℕ) → at + pending_count b.slots ≤ room
    → at + length (elected_both (first_side sells) price (trailed_both price b)) ≤ room
elected_room sells price b at room h =
    let out = elected_both (first_side sells) price (trailed_both price b) in
    omega (
      arith,
      h,
      point_count false sells price b,
      ap length (point_fills price b sells),
      length-map out (fill_at price),
    )

module _ (sells : Bool) (price : Price) {n : ℕ} {w v : List ℕ} (l : List (List ℕ)) (at m : ℕ)
    (trails : (b : Book) (r : List ℕ) → Stored n w b r
    → (m ≡ length (moved_by price b)) × Stored n v (trailed_both price b) r) where
  pub point_killed : Does (point true sells price) n w v l l at m at
  unfolding point
  point_killed b r st =
      let (e, done) = trails b r st in (
        e,
        rw (point_fills_killed price b sells) (omega arith),
        rw (point_fills_killed price b sells) refl,
        rw (point_book_killed price b sells) done,
      )

  pub point_done : {x : List ℕ} (k : List (List ℕ)) (end : ℕ) → ElectsBoth (first_side sells) price n v x l k at end
      → Does (point false sells price) n w x l k at m end
  unfolding point
  point_done k end elects b r st =
      let (e, trailed) = trails b r st in
      let (f, g, done) = elects _ r trailed in
      let out = elected_both (first_side sells) price (trailed_both price b) in (
        e,
        rw (point_fills price b sells, length-map out (fill_at price)) f,
        g ∙ ap (sets l at) (sym (map-map fill_words (fill_at price) out)
            ∙ ap (map fill_words) (sym (point_fills price b sells))),
        rw (point_book price b sells) done,
      )

------------------------------------------------------------------------
-- Counts

module _ (kill sells : Bool) (price : Price) {n : ℕ} {w v : List ℕ} (l k : List (List ℕ)) (at m end : ℕ)
    (does : Does (point kill sells price) n w v l k at m end) {b : Book} {r : List ℕ} (st : Stored n w b r) where
  -- what a point takes out leaves room for what stays
  pub room_left : (room : ℕ) → at + pending_count b.slots ≤ room
      → end + pending_count (point kill sells price b).book.slots ≤ room
  room_left room h = omega (arith, h, point_count kill sells price b, (does b r st).1)

  pub point_few : m ≤ most_records
  point_few = omega (arith, (does b r st).0, point-moves kill sells price b, stored_few st)

------------------------------------------------------------------------
-- One after others

pub does_same : (o p : Book → Evaluated) → ((b : Book) → o b ≡ p b)
    → {n : ℕ} {w v : List ℕ} (l k : List (List ℕ)) (at m end : ℕ)
    → Does o n w v l k at m end → Does p n w v l k at m end
does_same o p h l k at m end does b r st = rw (h b) at (does b r st)

pub does_then : (o p : Book → Evaluated) {n : ℕ} {w v x : List ℕ} (l k j : List (List ℕ)) (at m mid q end : ℕ)
    → Does o n w v l k at m mid
    → Does p n v x k j mid q end → Does (λ b. and_then (o b) (p (o b).book)) n w x l j at (m + q) end
unfolding and_then
does_then o p l k j at m mid q end first second b r st =
    let (e, f, g, one) = first b r st in
    let (h, i, a, two) = second _ r one in
    let (last, list) = run_on fill_words (o b).fills (p (o b).book).fills l k j at mid end f g i a in
    (rw length-append (omega (arith, e, h)), last, list, two)
