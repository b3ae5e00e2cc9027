-- Demand 3 over the two calls, from the theorem over their definitions.
use Prim.Native.Nat.{ℕ, ◌-◌}
use native.Mathlib.Omega.{arith}
use mathlib.Core.Path.{◌≡◌, refl, sym, subst}
use mathlib.Core.List.{List, [], ◌∷◌, map}
use lib.ListN.{length, get_or}
use Rattle.error.specs.Answer.{Answer, refused}
use Rattle.pricelevel.specs.Price.{to_price}
use Rattle.pricelevel.specs.declared.Price.{Price}
use Rattle.book.proofs.EndsDecide.{ends-decide}
use Rattle.book.specs.Calls.{written, SegmentOutcome, segment_call, walk_call}
use Rattle.book.specs.Entries.{elected_words, moved_words}
use Rattle.book.specs.Evaluation.{last_of}
use Rattle.book.specs.Runs.{without_moved}
use Rattle.book.specs.declared.Counts.{Counts}
use Rattle.book.specs.declared.Settings.{Settings}
use Rattle.both_ways.specs.Alike.{Decided}
use Rattle.both_ways.specs.Ends.{ends_call, Comparable}
use Rattle.both_ways.proofs.AlikeWords.{Leaves, decided_words}
use Rattle.std.specs.Prelude.{Option}

------------------------------------------------------------------------
-- The ends of a run of words

last_word : (x : ℕ) (xs : List ℕ) → last_of (to_price x) (map to_price xs) ≡ to_price (get_or (x ∷ xs) (length xs) 0)
unfolding last_of
last_word x [] = refl
last_word x (y ∷ xs) = last_word y xs

module _ (s : Settings) (prev : Option Price) (w : List ℕ) (elected moved : List (List ℕ)) where
  abbrev pub outcome : List ℕ → SegmentOutcome
  outcome ps = ends_call s prev (map to_price ps) w (length elected) (length moved)

  -- a call answers, and leaves of store and lists
  abbrev SegmentLeaves : SegmentOutcome → Answer Counts → List ℕ → List (List ℕ) → List (List ℕ) → Type 0
  SegmentLeaves o a u l m = (a ≡ o.answer) × (u ≡ o.words) × (l ≡ written (map elected_words o.elected) elected)
      × (m ≡ written (map moved_words o.moved) moved)

  pub without-price : (ps : List ℕ) → length ps ≡ 0 → SegmentLeaves (outcome ps) (refused 16) w elected moved
  unfolding ends_call written
  without-price [] e = (refl, refl, refl, refl)
  without-price (x ∷ xs) e = absurd (omega (arith, e))

  abbrev pub between : List ℕ → SegmentOutcome
  between ps =
      segment_call s (record {
        prev = prev;
        first = to_price (get_or ps 0 0);
        last = to_price (get_or ps (length ps - 1) 0);
      }) w (length elected) (length moved)

  pub between_ends : (ps : List ℕ) → (length ps ≡ 0 → ⊥) → between ps ≡ outcome ps
  unfolding ends_call
  between_ends [] h = absurd (h refl)
  between_ends (x ∷ xs) h =
      let e : length (x ∷ xs) - 1 ≡ length xs = omega arith in
      rw (e, last_word x xs)

  pub with_prices : (ps : List ℕ) → (length ps ≡ 0 → ⊥) → (a : Answer Counts) (u : List ℕ) (l m : List (List ℕ))
      → SegmentLeaves (between ps) a u l m
      → SegmentLeaves (outcome ps) a u l m
  with_prices ps h a u l m d = subst (λ (o : SegmentOutcome). SegmentLeaves o a u l m) (between_ends ps h) d

------------------------------------------------------------------------
-- The theorem

-- of what the calls answer and leave by their contracts
pub decided : (s : Settings) (prev : Option Price) (ps : List Price) (w v : List ℕ) (elected moved listed : List (List ℕ))
    (a b : Answer Counts) (w' v' : List ℕ) (elected' listed' : List (List ℕ))
    → Leaves (without_moved (ends_call s prev ps w (length elected) (length moved))) elected a w' elected'
    → Leaves (walk_call s prev ps v (length listed)) listed b v' listed'
    → Comparable ps w v (length elected) (length moved) (length listed)
    → Decided a b w' v' elected' listed'
unfolding ends_call
decided s prev [] w v elected moved listed a b w' v' elected' listed' h k c = let z = c.some in absurd (omega (arith, z))
decided s prev (p ∷ ps) w v elected moved listed a b w' v' elected' listed' h k c =
    let k' = subst (λ (u : List ℕ). Leaves (walk_call s prev (p ∷ ps) u (length listed)) listed b v' listed') (sym c.equal) k in
    decided_words _ _ (ends-decide s prev c.direction p ps w (length elected) (length moved) (length listed) c.formed
    c.goes c.few c.elected_room c.moved_room c.listed_room) elected listed a b w' v' elected' listed' h k'
