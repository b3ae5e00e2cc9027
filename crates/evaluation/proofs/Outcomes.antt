-- What a segment, a step and a walk answer and leave, refused and accepted.
use Prim.Native.Nat.{ℕ, ◌+◌, ◌≤◌}
use native.Mathlib.Omega.{arith}
use mathlib.Core.Bool.{Bool}
use mathlib.Core.Path.{◌≡◌, refl, ap, ◌∙◌}
use mathlib.Core.List.{List, [], ◌∷◌, map}
use lib.ListN.{length, get_or, length-map}
use lib.Seq.{sets, length-sets}
use Rattle.error.specs.Answer.{refused, accepted}
use Rattle.pricelevel.specs.declared.Price.{Price}
use Rattle.book.specs.declared.Counts.{Counts}
use Rattle.book.proofs.PointCounts.{point-moves}
use Rattle.book.proofs.Walks.{PointsAt, point_points, segment_points, walk_points, points_count, segment-moves}
use Rattle.book.specs.Book.{pending_count}
use Rattle.book.specs.Calls.{elected_entry, elected_entries, written, counts_of, SegmentOutcome, segment_questions, segment_call, WalkOutcome, walk_questions, walk_call}
use Rattle.book.specs.Evaluation.{Evaluated, sells_first, segment, walk}
use Rattle.book.specs.StepCall.{stepped, step_questions, step_call}
use Rattle.error.specs.Questions.{first_no, decide}
use Rattle.book.specs.Words.{book_of}
use Rattle.book.specs.declared.PrintSegment.{PrintSegment}
use Rattle.book.specs.declared.Settings.{Settings}
use Rattle.listing.proofs.Sets.{sets-written, sets_over}
use Rattle.book.specs.Entries.{moved_words, elected_words}
use Rattle.listing.specs.ChainEntries.{fill_words}
use Rattle.pending_stops.proofs.Found.{beyond, stored_words}
use Rattle.pending_stops.specs.Stored.{Stored}
use Rattle.evaluation.proofs.Questions.{segment_room, step_room, walk_room}
use Rattle.std.specs.Prelude.{None, Option, Some}

map_both : {A B C : Type 0} (f : B → C) (g : A → B) (l : List A) → map (λ x. f (g x)) l ≡ map f (map g l)
map_both f g [] = refl
map_both f g (x ∷ l) = ap (λ t. f (g x) ∷ t) (map_both f g l)

-- a place counted from the start
pub from_start : (k n : ℕ) → k ≡ n → k ≡ 0 + n
from_start k n e = omega (arith, e)

-- an evaluation with room for the elected: its fills are written from the start of the list, and then completed
module _ (s : Settings) (w : List ℕ) (elected : List (List ℕ)) (ps : List Price) (o : Evaluated)
    (points : PointsAt s.kill ps (book_of w) o)
    (room : pending_count (book_of w).slots ≤ length elected) (filled : List (List ℕ))
    (h : filled ≡ sets elected 0 (map fill_words o.fills)) where
  few : length o.fills ≤ length elected
  few = omega (arith, points_count s.kill points, room)

  pub fills-within : (k : ℕ) → k ≡ length o.fills → k ≤ length filled
  fills-within k e = rw (e, h, length-sets elected 0 (map fill_words o.fills)) few

  completed : (l : List (List ℕ)) → l ≡ sets filled 0 (map (λ f. elected_words (elected_entry s o.book f)) o.fills)
      → l ≡ written (map elected_words (elected_entries s o)) elected
  unfolding elected_entries
  completed l g =
      let words : List (List ℕ) = map (λ f. elected_words (elected_entry s o.book f)) o.fills in
      g ∙ ap (λ (t : List (List ℕ)). sets t 0 words) h
      ∙ sets_over (map fill_words o.fills) words elected 0 (rw (length-map, length-map))
      ∙ sets-written words elected (rw length-map few)
      ∙ ap (λ (t : List (List ℕ)). written t elected) (map_both elected_words (elected_entry s o.book) o.fills)

------------------------------------------------------------------------
-- Segment

module _ (s : Settings) (prints : PrintSegment) (w : List ℕ) (elected moved : List (List ℕ)) where
  abbrev outcome : SegmentOutcome
  outcome = segment_call s prints w (length elected) (length moved)

  -- the two lists after the call
  abbrev elected_after : List (List ℕ)
  elected_after = written (map elected_words outcome.elected) elected

  abbrev moved_after : List (List ℕ)
  moved_after = written (map moved_words outcome.moved) moved

  abbrev after : Evaluated
  after = segment s.kill prints (book_of w)

  pub segment_refused : (k : ℕ) → Some k ≡ first_no (segment_questions w (length elected) (length moved))
      → (refused k ≡ outcome.answer) × (w ≡ outcome.words) × (elected ≡ elected_after) × (moved ≡ moved_after)
  unfolding segment_call decide written
  segment_refused k h = rw (← h) (refl, refl, refl, refl)

  module _ (h : None ≡ first_no (segment_questions w (length elected) (length moved))) (l1 : List (List ℕ))
      (filled : l1 ≡ sets elected 0 (map fill_words after.fills)) where
    pub segment-within : (k : ℕ) → k ≡ length after.fills → k ≤ length l1
    segment-within = fills-within s w elected _ after (segment_points s.kill prints (book_of w))
        (segment_room w _ _ h).0 l1 filled

    pub segment_done : (c : Counts) (u : List ℕ) (l2 m : List (List ℕ)) → c.moves ≡ length after.moved
        → c.elected ≡ length after.fills
        → m ≡ sets moved 0 (map moved_words after.moved) → Stored (get_or w 0 0) u after.book (beyond w)
        → l2 ≡ sets l1 0 (map (λ f. elected_words (elected_entry s after.book f)) after.fills)
        → (accepted c ≡ outcome.answer) × (u ≡ outcome.words) × (l2 ≡ elected_after) × (m ≡ moved_after)
    unfolding segment_call decide counts_of
    segment_done c u l2 m moves count hm st h2 = rw (← h) (
      rw (← moves, ← count),
      stored_words w u after.book st,
      completed s w elected _ after (segment_points s.kill prints (book_of w)) (segment_room w _ _ h).0 l1 filled l2
          h2,
      hm ∙ sets-written (map moved_words after.moved) moved
          (rw length-map (omega (arith, segment-moves s.kill prints (book_of w), (segment_room w _ _ h).1))),
    )

------------------------------------------------------------------------
-- Step

module _ (s : Settings) (falls : Bool) (from : Option Price) (price : Price) (w : List ℕ) (elected moved : List (List ℕ)) where
  abbrev outcome-step : SegmentOutcome
  outcome-step = step_call s falls from price w (length elected) (length moved)

  abbrev step_elected : List (List ℕ)
  step_elected = written (map elected_words outcome-step.elected) elected

  abbrev step_moved : List (List ℕ)
  step_moved = written (map moved_words outcome-step.moved) moved

  abbrev after-step : Evaluated
  after-step = stepped s.kill falls from price (book_of w)

  abbrev point_of-step : PointsAt s.kill (price ∷ []) (book_of w) after-step
  point_of-step = point_points s.kill (sells_first falls from price) price (book_of w)

  pub step_refused : (k : ℕ) → Some k ≡ first_no (step_questions w (length elected) (length moved))
      → (refused k ≡ outcome-step.answer) × (w ≡ outcome-step.words) × (elected ≡ step_elected) × (moved ≡ step_moved)
  unfolding step_call decide written
  step_refused k h = rw (← h) (refl, refl, refl, refl)

  module _ (h : None ≡ first_no (step_questions w (length elected) (length moved))) where
    -- the moved list has room for the moves
    pub step-moves : length after-step.moved ≤ length moved
    step-moves =
        omega (arith, point-moves s.kill (sells_first falls from price) price (book_of w), (step_room w _ _ h).1)

    module _ (l1 : List (List ℕ)) (filled : l1 ≡ sets elected 0 (map fill_words after-step.fills)) where
      pub step_done : (c : Counts) (u : List ℕ) (l2 m : List (List ℕ)) → c.moves ≡ length after-step.moved
          → c.elected ≡ length after-step.fills
          → m ≡ sets moved 0 (map moved_words after-step.moved) → Stored (get_or w 0 0) u after-step.book (beyond w)
          → l2 ≡ sets l1 0 (map (λ f. elected_words (elected_entry s after-step.book f)) after-step.fills)
          → (accepted c ≡ outcome-step.answer) × (u ≡ outcome-step.words) × (l2 ≡ step_elected) × (m ≡ step_moved)
      unfolding step_call decide counts_of
      step_done c u l2 m moves count hm st h2 = rw (← h) (
        rw (← moves, ← count),
        stored_words w u after-step.book st,
        completed s w elected _ after-step point_of-step (step_room w _ _ h).0 l1 filled l2 h2,
        hm ∙ sets-written (map moved_words after-step.moved) moved (rw length-map step-moves),
      )

------------------------------------------------------------------------
-- Walk

module _ (s : Settings) (prev : Option Price) (prices : List Price) (w : List ℕ) (elected : List (List ℕ)) where
  abbrev outcome-walk : WalkOutcome
  outcome-walk = walk_call s prev prices w (length elected)

  abbrev walk_after : List (List ℕ)
  walk_after = written (map elected_words outcome-walk.elected) elected

  abbrev walked : Evaluated
  walked = walk s.kill prev prices (book_of w)

  pub walk_refused : (k : ℕ) → Some k ≡ first_no (walk_questions prices w (length elected))
      → (refused k ≡ outcome-walk.answer) × (w ≡ outcome-walk.words) × (elected ≡ walk_after)
  unfolding walk_call decide written
  walk_refused k h = rw (← h) (refl, refl, refl)

  module _ (h : None ≡ first_no (walk_questions prices w (length elected))) (l1 : List (List ℕ))
      (filled : l1 ≡ sets elected 0 (map fill_words walked.fills)) where
    pub walk-within : (k : ℕ) → k ≡ length walked.fills → k ≤ length l1
    walk-within = fills-within s w elected _ walked (walk_points s.kill prev prices (book_of w))
        (walk_room prices w _ h) l1 filled

    pub walk_done : (c : Counts) (u : List ℕ) (l2 : List (List ℕ)) → c.moves ≡ length walked.moved
        → c.elected ≡ length walked.fills
        → Stored (get_or w 0 0) u walked.book (beyond w)
        → l2 ≡ sets l1 0 (map (λ f. elected_words (elected_entry s walked.book f)) walked.fills)
        → (accepted c ≡ outcome-walk.answer) × (u ≡ outcome-walk.words) × (l2 ≡ walk_after)
    unfolding walk_call decide counts_of
    walk_done c u l2 moves count st h2 = rw (← h) (
      rw (← moves, ← count),
      stored_words w u walked.book st,
      completed s w elected _ walked (walk_points s.kill prev prices (book_of w)) (walk_room prices w _ h) l1 filled
          l2 h2,
    )
