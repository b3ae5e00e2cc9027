-- A pass keeps a book valid and of words, loses as many stops as it elects, uses no more script entries than there are,
-- and has fuel enough.
use Prim.Native.Nat.{ℕ, zero, suc, ◌≤◌, ◌+◌, ◌-◌, ◌*◌}
use mathlib.Core.Path.{◌≡◌, refl}
use mathlib.Core.List.{List, [], ◌∷◌, ◌++◌}
use native.Mathlib.Nat.{suc-mul}
use native.Mathlib.Omega.{arith}
use lib.ListN.{length, length-append, length-map}
use Rattle.book.proofs.Walks.{Kept, kept_trans, segment_points, points-valid, points_fits, points_kept, points_count, SegmentFits, segment_prices_fits, segment-moves}
use Rattle.book.proofs.Execution.{executed_segments, executed_fits}
use Rattle.book.proofs.Lists.{all_append, all_drop}
use Rattle.book.specs.Lists.{All}
use Rattle.book.specs.Valid.{Valid, Fits}
use Rattle.book.proofs.WellFormed.{IsWord}
use Rattle.book.specs.Book.{Book, pending_count}
use Rattle.book.specs.Calls.{Settings, elected_entry, elected_entries, Passed, evaluated_in, executed_in, script_after, ended, with_segment, pass_from, pass}
use Rattle.book.specs.Evaluation.{Evaluated}
use Rattle.book.specs.Sizes.{script_entry_length}
use Rattle.book.specs.declared.PrintSegment.{PrintSegment}

------------------------------------------------------------------------
-- The pass, one segment after the other

abbrev pub passed_after : ℕ → Settings → List ℕ → PrintSegment → List PrintSegment → Book → Passed
passed_after k s script prints queue b =
    pass_from k s (script_after s script prints b) (queue ++ (executed_in s script prints b).segments)
    (evaluated_in s prints b).book

pub zero_or_more : {X : Type 0} (n : ℕ) → (n ≡ 0 → X) → ((m : ℕ) → n ≡ suc m → X) → X
zero_or_more zero f g = f refl
zero_or_more (suc m) f g = g m refl

module _ (s : Settings) where
  pub pass_from_empty : (k : ℕ) (script : List ℕ) (queue : List PrintSegment) (b : Book) → pending_count b.slots ≡ 0
      → pass_from k s script queue b ≡ ended b
  unfolding pass_from
  pass_from_empty zero script queue b e = refl
  pass_from_empty (suc k) script [] b e = refl
  pass_from_empty (suc k) script (prints ∷ queue) b e = rw (e, pass_from)

  pub pass_from_done : (k : ℕ) (script : List ℕ) (b : Book) → pass_from k s script [] b ≡ ended b
  unfolding pass_from
  pass_from_done zero script b = refl
  pass_from_done (suc k) script b = refl

  pub pass_from-step : (k n : ℕ) (script : List ℕ) (prints : PrintSegment) (queue : List PrintSegment) (b : Book)
      → pending_count b.slots ≡ suc n
      → pass_from (suc k) s script (prints ∷ queue) b ≡ with_segment s script prints b
      (passed_after k s script prints queue b)
  unfolding pass_from
  pass_from-step k n script prints queue b e = rw (e, pass_from)

  -- what holds of a pass that takes no segment, and goes over from the rest of a pass to all of it, holds of every pass
  pub pass_from_induction : (P : ℕ → List ℕ → List PrintSegment → Book → Passed → Type 0)
      → ((k : ℕ) (script : List ℕ) (queue : List PrintSegment) (b : Book) → P k script queue b (ended b))
      → ((k : ℕ) (script : List ℕ) (prints : PrintSegment) (queue : List PrintSegment) (b : Book) (rest : Passed)
      → P k (script_after s script prints b) (queue ++ (executed_in s script prints b).segments)
      (evaluated_in s prints b).book rest
      → P (suc k) script (prints ∷ queue) b (with_segment s script prints b rest))
      → (k : ℕ) (script : List ℕ) (queue : List PrintSegment) (b : Book)
      → P k script queue b (pass_from k s script queue b)
  unfolding pass_from
  pass_from_induction P stop step zero script queue b = stop zero script queue b
  pass_from_induction P stop step (suc k) script [] b = stop (suc k) script [] b
  pass_from_induction P stop step (suc k) script (prints ∷ queue) b =
      let ih = pass_from_induction P stop step k (script_after s script prints b)
      (queue ++ (executed_in s script prints b).segments) (evaluated_in s prints b).book in
      zero_or_more (pending_count b.slots)
      (λ e. rw (pass_from_empty (suc k) script (prints ∷ queue) b e) (stop (suc k) script (prints ∷ queue) b))
      (λ n e. rw (pass_from-step k n script prints queue b e) (step k script prints queue b _ ih))

  pub entries_length : (prints : PrintSegment) (b : Book)
      → length (elected_entries s (evaluated_in s prints b)) ≡ length (evaluated_in s prints b).fills
  unfolding elected_entries
  entries_length prints b = length-map (evaluated_in s prints b).fills (elected_entry s (evaluated_in s prints b).book)

  pub pass_from-valid : (k : ℕ) (script : List ℕ) (queue : List PrintSegment) (b : Book) → Valid b
      → Valid (pass_from k s script queue b).book
  pass_from-valid = pass_from_induction (λ k script queue b o. Valid b → Valid o.book) (λ k script queue b h. h)
      (λ k script prints queue b rest ih h. ih (points-valid s.kill (segment_points s.kill prints b) h))

  pub pass_from_fits : (k : ℕ) (script : List ℕ) (queue : List PrintSegment) (b : Book) → All IsWord script
      → All SegmentFits queue → Fits b
      → Fits (pass_from k s script queue b).book
  pass_from_fits = pass_from_induction (λ k script queue b o. All IsWord script → All SegmentFits queue → Fits b
      → Fits o.book) (λ k script queue b w q h. h)
      (λ k script prints queue b rest ih w q h. ih
      (all_drop IsWord (script_entry_length * (executed_in s script prints b).used) script w)
      (all_append SegmentFits queue (executed_in s script prints b).segments q.1
      (executed_fits script (elected_entries s (evaluated_in s prints b)) w))
      (points_fits s.kill (segment_points s.kill prints b) (segment_prices_fits prints q.0) h))

  pub pass_from_kept : (k : ℕ) (script : List ℕ) (queue : List PrintSegment) (b : Book)
      → Kept b (pass_from k s script queue b).book
  pass_from_kept = pass_from_induction (λ k script queue b o. Kept b o.book) (λ k script queue b. record {
    records = refl;
    next = refl;
    tick = refl;
  })
      (λ k script prints queue b rest ih. kept_trans b (evaluated_in s prints b).book rest.book
      (points_kept s.kill (segment_points s.kill prints b)) ih)

  pub pass_from_count : (k : ℕ) (script : List ℕ) (queue : List PrintSegment) (b : Book)
      → pending_count b.slots ≡ pending_count (pass_from k s script queue b).book.slots + length
      (pass_from k s script queue b).entries
  pass_from_count = pass_from_induction
      (λ k script queue b o. pending_count b.slots ≡ pending_count o.book.slots + length o.entries)
      (λ k script queue b. omega arith)
      (λ k script prints queue b rest ih. rw length-append
      (omega (arith, ih, entries_length prints b, points_count s.kill (segment_points s.kill prints b))))

  -- two moves a stop and segment, of which there are no more than the fuel
  pub pass_from-moves : (most k : ℕ) (script : List ℕ) (queue : List PrintSegment) (b : Book)
      → pending_count b.slots ≤ most
      → (pass_from k s script queue b).moves ≤ k * (2 * most)
  pass_from-moves most =
      pass_from_induction (λ k script queue b o. pending_count b.slots ≤ most → o.moves ≤ k * (2 * most))
      (λ k script queue b h. omega arith)
      (λ k script prints queue b rest ih h.
      rw suc-mul (omega (
        arith,
        ih (omega (arith, points_count s.kill (segment_points s.kill prints b))),
        segment-moves s.kill prints b,
      )))

  -- each elected stop adds at most one segment, so that fuel for the queue and the pending stops is enough
  pub pass_from_fuel : (j k : ℕ) (script : List ℕ) (queue : List PrintSegment) (b : Book)
      → length queue + pending_count b.slots ≤ j → length queue + pending_count b.slots ≤ k
      → pass_from j s script queue b ≡ pass_from k s script queue b
  pass_from_fuel zero k script [] b h i = rw (pass_from_done zero script b, pass_from_done k script b)
  pass_from_fuel zero k script (prints ∷ queue) b h i = absurd (omega arith)
  pass_from_fuel (suc j) k script [] b h i = rw (pass_from_done (suc j) script b, pass_from_done k script b)
  pass_from_fuel (suc j) zero script (prints ∷ queue) b h i = absurd (omega arith)
  pass_from_fuel (suc j) (suc k) script (prints ∷ queue) b h i =
      let o : Evaluated = evaluated_in s prints b in
      let added : List PrintSegment = (executed_in s script prints b).segments in
      let left : length (queue ++ added) + pending_count o.book.slots ≤ length queue + pending_count b.slots =
      rw length-append (omega (
        arith,
        executed_segments script (elected_entries s o),
        entries_length prints b,
        points_count s.kill
            (segment_points s.kill prints b),
      )) in
      let ih = pass_from_fuel j k (script_after s script prints b) (queue ++ added) o.book (omega arith)
      (omega arith) in
      zero_or_more (pending_count b.slots)
      (λ e. rw (pass_from_empty (suc j) script (prints ∷ queue) b e, pass_from_empty (suc k) script (prints ∷ queue) b e))
      (λ n e. rw (pass_from-step j n script prints queue b e, pass_from-step k n script prints queue b e, ih))

------------------------------------------------------------------------
-- A call's pass

module _ (s : Settings) (script : List ℕ) (prints : PrintSegment) (b : Book) where
  pub pass_fuel : (k : ℕ) → suc (pending_count b.slots) ≤ k
      → pass_from k s script (prints ∷ []) b ≡ pass s script prints b
  unfolding pass
  pass_fuel k h = pass_from_fuel s k (suc (pending_count b.slots)) script (prints ∷ []) b (omega arith) (omega arith)

  pub pass-valid : Valid b → Valid (pass s script prints b).book
  unfolding pass
  pass-valid h = pass_from-valid s _ script (prints ∷ []) b h

  pub pass_fits : All IsWord script → SegmentFits prints → Fits b → Fits (pass s script prints b).book
  unfolding pass
  pass_fits w p h = pass_from_fits s _ script (prints ∷ []) b w (p, tt) h

  pub pass_kept : Kept b (pass s script prints b).book
  unfolding pass
  pass_kept = pass_from_kept s _ script (prints ∷ []) b

  pub pass_count_lem : pending_count b.slots ≡ pending_count (pass s script prints b).book.slots + length
      (pass s script prints b).entries
  unfolding pass
  pass_count_lem = pass_from_count s _ script (prints ∷ []) b
