-- The steps of a point on a store, one after the other.
use Prim.Native.Nat.{ℕ, ◌+◌, ◌≤◌}
use native.Mathlib.Omega.{arith}
use mathlib.Core.Path.{◌≡◌, sym, ap, ◌∙◌}
use mathlib.Core.Bool.{true}
use mathlib.Core.List.{List, ◌++◌, map, map-append}
use lib.ListN.{length, length-append, length-map}
use lib.Seq.{sets}
use Rattle.pricelevel.specs.declared.Price.{Price}
use Rattle.pricelevel.specs.declared.Side.{Side}
use Rattle.pricelevel.specs.declared.Side.TheVariants.{Buy, Sell}
use Rattle.book.proofs.PointCounts.{point-moves}
use Rattle.book.proofs.FreeChain.{pending_count_vacant}
use Rattle.book.specs.Steps.{trailed_on, elected_in, taken_on, other, trailed_both, elected_both, taken_both}
use Rattle.book.specs.Book.{Book, Pending, pending_count}
use Rattle.book.specs.Evaluation.{moved_on, moved_by, fill_at, point}
use Rattle.book.specs.Sizes.{most_records}
use Rattle.listing.proofs.Sets.{sets_on}
use Rattle.book.specs.Entries.{moved_words}
use Rattle.listing.specs.ChainEntries.{fill_words}
use Rattle.pending_stops.specs.Stored.{Stored}
use Rattle.points.proofs.PointSteps.{point_moved}

-- no more stops are pending than there are records
pub stored_few : {n : ℕ} {w : List ℕ} {b : Book} {r : List ℕ} → Stored n w b r → pending_count b.slots ≤ most_records
stored_few {b = b} st = omega (arith, pending_count_vacant 1 b.slots, st.valid.few_records)

-- one run of entries, and then another
pub run_on : {A B : Type 0} (words : A → B) (xs ys : List A) (l k j : List B) (at m end : ℕ) → m ≡ at + length xs
    → k ≡ sets l at (map words xs) → end ≡ m + length ys → j ≡ sets k m (map words ys)
    → (end ≡ at + length (xs ++ ys)) × (j ≡ sets l at (map words (xs ++ ys)))
run_on words xs ys l k j at m end e f g h =
    let first : m ≡ at + length (map words xs) = rw length-map e in (
      rw length-append (omega (arith, e, g)),
      h ∙ ap (λ q. sets q m (map words ys)) f ∙ sets_on (map words xs) (map words ys) l at m first
          ∙ ap (sets l at) (sym (map-append words xs ys)),
    )

------------------------------------------------------------------------
-- The stops of both sides trail

-- those of a side: the words w become v, and m stop prices are others
abbrev pub Trails : Side → Price → ℕ → List ℕ → List ℕ → ℕ → Type 0
Trails side price n w v m =
    (b : Book) (r : List ℕ) → Stored n w b r
    → (m ≡ length (moved_on price side b)) × Stored n v (trailed_on side price b) r

module _ (price : Price) {n : ℕ} {w v : List ℕ} (m : ℕ) (sells : Trails Sell price n w v m) where
  module _ {x : List ℕ} (k : ℕ) (buys : Trails Buy price n v x k) (b : Book) (r : List ℕ) (st : Stored n w b r) where
    pub trailed_both_lem : (m + k ≡ length (moved_by price b)) × Stored n x (trailed_both price b) r
    unfolding trailed_both point
    trailed_both_lem =
        let one = sells b r st in
        let two = buys _ r one.1 in
        (rw (point_moved price b true true, length-append) (omega (arith, one.0, two.0)), two.1)

    pub moves_few : m + k ≤ most_records
    unfolding point
    moves_few = omega (arith, trailed_both_lem.0, point-moves true true price b, stored_few st)

------------------------------------------------------------------------
-- The elected of both sides leave

-- the entries of the elected
abbrev pub elected_fills : Price → List Pending → List (List ℕ)
elected_fills price ps = map (λ p. fill_words (fill_at price p)) ps

-- those of a side: the words w become v, and the list l, from a place on, k
abbrev pub Elects : Side → Price → ℕ → List ℕ → List ℕ → List (List ℕ) → List (List ℕ) → ℕ → ℕ → Type 0
Elects side price n w v l k at end =
    (b : Book) (r : List ℕ) → Stored n w b r
    → (end ≡ at + length (elected_in side price b)) × (k ≡ sets l at (elected_fills price (elected_in side price b)))
    × Stored n v (taken_on side price b) r

abbrev pub ElectsBoth : Side → Price → ℕ → List ℕ → List ℕ → List (List ℕ) → List (List ℕ) → ℕ → ℕ → Type 0
ElectsBoth first price n w v l k at end =
    (b : Book) (r : List ℕ) → Stored n w b r
    → (end ≡ at + length (elected_both first price b)) × (k ≡ sets l at (elected_fills price (elected_both first price b)))
    × Stored n v (taken_both first price b) r

module _ (d : Side) (price : Price) where
  pub first_room : (b : Book) (at room : ℕ) → at + length (elected_both d price b) ≤ room
      → at + length (elected_in d price b) ≤ room
  unfolding elected_both
  first_room b at room h =
      omega (arith, h, length-append (elected_in d price b) (elected_in (other d) price (taken_on d price b)))

  module _ {n : ℕ} {w v : List ℕ} (l k : List (List ℕ)) (at m : ℕ) (first : Elects d price n w v l k at m) where
    pub second_room : {b : Book} {r : List ℕ} (room : ℕ) → Stored n w b r → at + length (elected_both d price b) ≤ room
        → m + length (elected_in (other d) price (taken_on d price b)) ≤ room
    unfolding elected_both
    second_room {b = b} {r = r} room st h =
        omega (
          arith,
          h,
          length-append (elected_in d price b) (elected_in (other d) price (taken_on d price b)),
          (first b r st).0,
        )

    pub elected_both_lem : {x : List ℕ} (j : List (List ℕ)) (end : ℕ) → Elects (other d) price n v x k j m end
        → ElectsBoth d price n w x l j at end
    unfolding elected_both taken_both
    elected_both_lem j end second b r st =
        let (e, f, one) = first b r st in
        let (g, h, two) = second _ r one in
        let (end, list) = run_on _ (elected_in d price b)
        (elected_in (other d) price (taken_on d price b)) _ _ _ _ _ _ e f g h in
        (end, list, two)

------------------------------------------------------------------------
-- The moves of both sides

abbrev pub ListsOn : Side → Price → ℕ → List ℕ → List (List ℕ) → List (List ℕ) → ℕ → ℕ → Type 0
ListsOn side price n w l k at end =
    (b : Book) (r : List ℕ) → Stored n w b r
    → (end ≡ at + length (moved_on price side b)) × (k ≡ sets l at (map moved_words (moved_on price side b)))

abbrev pub ListsMoves : Price → ℕ → List ℕ → List (List ℕ) → List (List ℕ) → ℕ → ℕ → Type 0
ListsMoves price n w l k at end =
    (b : Book) (r : List ℕ) → Stored n w b r
    → (end ≡ at + length (moved_by price b)) × (k ≡ sets l at (map moved_words (moved_by price b)))

module _ (price : Price) where
  pub sells_room : (b : Book) (at room : ℕ) → at + length (moved_by price b) ≤ room
      → at + length (moved_on price Sell b) ≤ room
  unfolding moved_by
  sells_room b at room h = omega (arith, h, length-append (moved_on price Sell b) (moved_on price Buy b))

  module _ {n : ℕ} {w : List ℕ} (l k : List (List ℕ)) (at m : ℕ) (sells : ListsOn Sell price n w l k at m) where
    pub buys_room : {b : Book} {r : List ℕ} (room : ℕ) → Stored n w b r → at + length (moved_by price b) ≤ room
        → m + length (moved_on price Buy b) ≤ room
    unfolding moved_by
    buys_room {b = b} {r = r} room st h =
        omega (arith, h, length-append (moved_on price Sell b) (moved_on price Buy b), (sells b r st).0)

    pub moved_both : (j : List (List ℕ)) (end : ℕ) → ListsOn Buy price n w k j m end → ListsMoves price n w l j at end
    unfolding moved_by
    moved_both j end buys b r st =
        let (e, f) = sells b r st in
        let (g, h) = buys b r st in
        run_on _ (moved_on price Sell b) (moved_on price Buy b) _ _ _ _ _ _ e f g h
