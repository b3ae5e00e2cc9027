-- A walk on a store: so many of its prices, and one more.
use Prim.Native.Nat.{ℕ, suc, ◌+◌, ◌-◌, ◌*◌, ◌≤◌, ◌<◌}
use native.Mathlib.Omega.{arith}
use mathlib.Core.Path.{◌≡◌, refl, sym, ap, ◌∙◌}
use mathlib.Core.Bool.{Bool}
use mathlib.Core.List.{List, [], ◌∷◌, ◌++◌, map, map-append, append_assoc}
use lib.ListN.{length, get_or, take}
use lib.Seq.{sets, take-suc, take_all}
use Rattle.pricelevel.specs.declared.Price.{Price}
use Rattle.book.proofs.Walks.{walk_from_points, then_none, points_count}
use Rattle.book.specs.Book.{Book, pending_count}
use Rattle.book.specs.Evaluation.{Evaluated, point, sells_first, falls_to, and_then, walk_from, last_of, walk}
use Rattle.book.specs.Sizes.{most_records}
use Rattle.listing.specs.ChainEntries.{fill_words}
use Rattle.pending_stops.specs.Stored.{Stored}
use Rattle.points.proofs.PointsOnWords.{Does, point_few, does_same, does_then}
use Rattle.pricelevel.specs.Price.{to_price}
use Rattle.std.specs.Prelude.{Option, Some}

------------------------------------------------------------------------
-- One more price

-- the price that the point after these arrives from
unfoldable pub arrived : Option Price → List Price → Option Price
arrived from [] = from
arrived from (p ∷ ps) = arrived (Some p) ps

arrived_more : (from : Option Price) (ps : List Price) (p : Price) → arrived from (ps ++ (p ∷ [])) ≡ Some p
unfolding arrived
arrived_more from [] p = refl
arrived_more from (q ∷ ps) p = arrived_more (Some q) ps p

then_then : (o p q : Evaluated) → and_then o (and_then p q) ≡ and_then (and_then o p) q
unfolding and_then
then_then o p q = λ i. record {
  book = q.book;
  fills = sym (append_assoc o.fills p.fills q.fills) i;
  moved = sym (append_assoc o.moved p.moved q.moved) i;
}

module _ (kill falls : Bool) where
  pub walk_from_more : (from : Option Price) (ps : List Price) (p : Price) (b : Book)
      → and_then (walk_from kill falls from ps b)
      (point kill (sells_first falls (arrived from ps) p) p (walk_from kill falls from ps b).book)
      ≡ walk_from kill falls from (ps ++ (p ∷ [])) b
  unfolding walk_from arrived and_then
  walk_from_more from [] p b = sym (then_none _)
  walk_from_more from (q ∷ ps) p b =
      let o = point kill (sells_first falls from q) q b in
      let w = walk_from kill falls (Some q) ps o.book in
      let latest = point kill (sells_first falls (arrived (Some q) ps) p) p w.book in
      sym (then_then o w latest) ∙ ap (and_then o) (walk_from_more (Some q) ps p o.book)

  -- as many fewer are pending
  pub walk_from_count : (from : Option Price) (ps : List Price) (b : Book)
      → pending_count b.slots ≡ pending_count (walk_from kill falls from ps b).book.slots + length
      (walk_from kill falls from ps b).fills
  walk_from_count from ps b = points_count kill (walk_from_points kill falls from ps b)

------------------------------------------------------------------------
-- The prices as words

last_of_words : (x : ℕ) (xs : List ℕ) → last_of (to_price x) (map to_price xs) ≡ to_price (get_or (x ∷ xs) (length xs) 0)
unfolding last_of
last_of_words x [] = refl
last_of_words x (y ∷ xs) = last_of_words y xs

-- whether a walk along them falls
abbrev pub words_fall : List ℕ → Bool
words_fall prices = falls_to (to_price (get_or prices 0 0)) (to_price (get_or prices (length prices - 1) 0))

walk_words : (kill : Bool) (prev : Option Price) (prices : List ℕ) (b : Book) → 1 ≤ length prices
    → walk_from kill (words_fall prices) prev (map to_price prices) b ≡ walk kill prev (map to_price prices) b
unfolding walk
walk_words kill prev [] b h = absurd (omega arith)
walk_words kill prev (x ∷ xs) b h =
    let e : suc (length xs) - 1 ≡ length xs = omega arith in
    rw (e, last_of_words x xs)

------------------------------------------------------------------------
-- The loop

-- points stand at i of the prices
pub record Walked (kill falls : Bool) (prev : Option Price) (prices : List ℕ) (n : ℕ) (w v : List ℕ) (l k : List (List ℕ))
    (from : Option Price)
    (moves at i : ℕ) : Type 0 where
  pub few : i ≤ length prices
  pub words : length v ≡ length w
  pub size : length k ≡ length l
  pub arrival : from ≡ arrived prev (map to_price (take i prices))
  pub few-moves : moves ≤ i * most_records
  pub does : Does (walk_from kill falls prev (map to_price (take i prices))) n w v l k 0 moves at

module _ {kill falls : Bool} {prev : Option Price} {prices : List ℕ} {n : ℕ} {w : List ℕ} {l : List (List ℕ)} where
  pub walked_first : Walked kill falls prev prices n w w l l prev 0 0 0
  unfolding walk_from arrived
  walked_first = record {
    few = omega arith;
    words = refl;
    size = refl;
    arrival = refl;
    few-moves = omega arith;
    does = λ b r st. (refl, omega arith, refl, st);
  }

  module _ {v : List ℕ} {k : List (List ℕ)} {from : Option Price} {moves at i : ℕ}
      (h : Walked kill falls prev prices n w v l k from moves at i) where
    -- there is room for what the next point takes out
    pub walked_room : {b : Book} {r : List ℕ} → Stored n w b r → pending_count b.slots ≤ length l
        → (c : Book) × (q : List ℕ) × Stored n v c q × (at + pending_count c.slots ≤ length k)
    walked_room {b = b} {r = r} st room =
        let (e, f, g, now) = h.does b r st in
        (_, r, now, omega (arith, room, f, h.size, walk_from_count kill falls prev (map to_price (take i prices)) b))

    -- whichever point comes next
    pub point-moves_few : (first : Bool) (price : Price) {x : List ℕ} {j : List (List ℕ)} (m end : ℕ)
        → Does (point kill first price) n v x k j at m end → {b : Book} {r : List ℕ} → Stored n w b r → m ≤ most_records
    point-moves_few first price m end does {b} {r} st = point_few _ _ _ _ _ _ _ _ does (h.does b r st).3

    module _ (inside : i < length prices) {x : List ℕ} {j : List (List ℕ)} (m end : ℕ)
        (does : Does (point kill (sells_first falls from (to_price (get_or prices i 0)))
        (to_price (get_or prices i 0))) n v x k j at m end) where
      more : map to_price (take i prices) ++ (to_price (get_or prices i 0) ∷ []) ≡ map to_price (take (i + 1) prices)
      more =
          let e : i + 1 ≡ suc i = omega arith in
          rw e (sym (ap (map to_price) (take-suc prices i 0 inside)
          ∙ map-append to_price (take i prices) (get_or prices i 0 ∷ [])))

      pub walked_next : {b : Book} {r : List ℕ} → Stored n w b r → length x ≡ length v → length j ≡ length k
          → Walked kill falls prev prices n w x l j (Some (to_price (get_or prices i 0))) (moves + m) end (i + 1)
      walked_next st p q = record {
        few = omega (arith, inside);
        words = p ∙ h.words;
        size = q ∙ h.size;
        arrival = sym (arrived_more prev (map to_price (take i prices)) (to_price (get_or prices i 0)))
            ∙ ap (arrived prev) more;
        few-moves = omega (arith, h.few-moves, point-moves_few _ _ m end does st);
        does = does_same _ (walk_from kill falls prev (map to_price (take (i + 1) prices)))
            (λ b. walk_from_more kill falls prev (map to_price (take i prices)) (to_price (get_or prices i 0)) b
            ∙ ap (λ ps. walk_from kill falls prev ps b) more) l j 0 (moves + m) end
            (does_then (walk_from kill falls prev (map to_price (take i prices)))
            (point kill (sells_first falls (arrived prev (map to_price (take i prices))) (to_price (get_or prices i 0)))
            (to_price (get_or prices i 0)))
            l k j 0 moves at m end h.does (rw h.arrival at does));
      }

  pub walked_last : {v : List ℕ} {k : List (List ℕ)} {from : Option Price} {moves at i : ℕ}
      → Walked kill falls prev prices n w v l k from moves at i
      → falls ≡ words_fall prices → 1 ≤ length prices → length prices ≤ i → (b : Book) (r : List ℕ) → Stored n w b r
      → (moves ≡ length (walk kill prev (map to_price prices) b).moved)
      × (at ≡ length (walk kill prev (map to_price prices) b).fills)
      × (k ≡ sets l 0 (map fill_words (walk kill prev (map to_price prices) b).fills))
      × Stored n v (walk kill prev (map to_price prices) b).book r
  walked_last {i = i} h f some all b r st =
      let same : walk_from kill falls prev (map to_price (take i prices)) b ≡ walk kill prev (map to_price prices) b =
      rw (take_all i prices all, f) (walk_words kill prev prices b some) in
      let (e, g, list, stored) = rw same at (h.does b r st) in
      (e, omega (arith, g), list, stored)
