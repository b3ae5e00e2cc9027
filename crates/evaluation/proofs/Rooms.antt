-- What each call that evaluates lists, and that a list of more entries than a store has records changes nothing.
use Prim.Native.Nat.{ℕ, ◌≤◌, ◌*◌, min, zero-le}
use native.Mathlib.Omega.{arith}
use mathlib.Core.Path.{◌≡◌, refl, sym, ◌∙◌}
use mathlib.Core.Bool.{Bool, true, not, ◌||◌}
use mathlib.Core.List.{List, [], ◌∷◌, map}
use borrow.Author.Tests.{le-leb, lt-leb, leb-true, leb-false}
use borrow.Table.Steps.{cases}
use lib.Dec.{leb, eqb}
use lib.ListN.{length, take, drop, length-map}
use lib.Seq.{take_at}
use Rattle.pricelevel.specs.declared.IdKind.TheVariants.{Uuid}
use Rattle.pricelevel.specs.declared.Price.{Price}
use Rattle.stop_trigger.specs.Child.{child_id, id_of}
use Rattle.book.proofs.PointCounts.{point-moves}
use Rattle.book.proofs.Walks.{PointsAt, point_points, segment_points, walk_points, points_count, segment-moves}
use Rattle.book.proofs.Lists.{all_append}
use Rattle.book.specs.Lists.{All}
use Rattle.book.proofs.Passes.{pass_from_induction, pass_count_lem}
use Rattle.book.proofs.Questions.{decide_outcomes}
use Rattle.book.specs.Book.{Book, pending_count}
use Rattle.book.specs.Calls.{elected_entry, elected_entries, written, counts_of, pending_in, segment_questions, SegmentOutcome, segment_call, WalkOutcome, walk_questions, walk_call, pass, PassOutcome, pass_questions, passed, pass_call, RunOutcome, run_over, run_call}
use Rattle.book.specs.Evaluation.{Fill, Evaluated, sells_first, segment}
use Rattle.book.specs.StepCall.{step_questions, step_call}
use Rattle.book.specs.Path.{segment_of}
use Rattle.error.specs.Questions.{first_no}
use Rattle.book.specs.Words.{book_of, well_formed}
use Rattle.book.specs.Sizes.{most_records}
use Rattle.book.specs.declared.Elected.{Elected}
use Rattle.book.specs.declared.PrintPath.{PrintPath}
use Rattle.book.specs.declared.PrintSegment.{PrintSegment}
use Rattle.book.specs.declared.Settings.{Settings}
use Rattle.evaluation.proofs.Questions.{segment_room, step_room, walk_room}
use Rattle.evaluation.proofs.Passes.{pass_elected}
use Rattle.pending_stops.proofs.Found.{well_formed-stored}
use Rattle.points.proofs.Steps.{stored_few}
use Rattle.evaluation.specs.Counts.{elected_count, moved_count, pass_count}
use Rattle.std.specs.Prelude.{None, Option}

------------------------------------------------------------------------
-- The children of what is listed

-- a child identity is a UUID
abbrev pub UuidChild : Elected → Type 0
UuidChild e = e.child.kind ≡ Uuid

child_kind : (s : Settings) (b : Book) (f : Fill) → UuidChild (elected_entry s b f)
unfolding elected_entry child_id id_of
child_kind s b f = refl

children_of : (s : Settings) (b : Book) (fs : List Fill) → All UuidChild (map (elected_entry s b) fs)
children_of s b [] = tt
children_of s b (f ∷ fs) = (child_kind s b f, children_of s b fs)

children : (s : Settings) (o : Evaluated) → All UuidChild (elected_entries s o)
unfolding elected_entries
children s o = children_of s o.book o.fills

pass_children : (s : Settings) (script : List ℕ) (prints : PrintSegment) (b : Book)
    → All UuidChild (pass s script prints b).entries
unfolding pass
pass_children s script prints b =
    pass_from_induction s (λ k script queue b o. All UuidChild o.entries) (λ k script queue b. tt)
    (λ k script prints queue b rest ih. all_append UuidChild (elected_entries s (segment s.kill prints b))
    rest.entries
    (children s (segment s.kill prints b)) ih) _ script (prints ∷ []) b

------------------------------------------------------------------------
-- What an evaluation lists

-- as many entries as it answers, and no more than there is room for
pub record Listed {A : Type 0} (count : ℕ) (entries : List A) (room : ℕ) : Type 0 where
  pub counted : count ≡ length entries
  pub few : length entries ≤ room

abbrev pub ListsElected : ℕ → List Elected → ℕ → Type 0
ListsElected count entries room = Listed count entries room × All UuidChild entries

-- the entries that a call wrote are the first of the list, as many as it wrote
pub written_taken : {A : Type 0} (entries lent : List A) (n : ℕ) → n ≡ length entries
    → take n (written entries lent) ≡ entries
unfolding written
written_taken entries lent n e = take_at entries (drop (length entries) lent) n (sym e)

nothing_listed : (room : ℕ) → ListsElected 0 [] room
nothing_listed room = (record { counted = refl; few = zero-le }, tt)

evaluation_lists : (s : Settings) (room : ℕ) {ps : List Price} {b : Book} {o : Evaluated} → PointsAt s.kill ps b o
    → pending_count b.slots ≤ room
    → ListsElected (length o.fills) (elected_entries s o) room
unfolding elected_entries
evaluation_lists s room {o = o} points h =
    let size : length (map (elected_entry s o.book) o.fills) ≡ length o.fills =
    length-map o.fills (elected_entry s o.book) in
    (record { counted = sym size; few = rw size (omega (arith, points_count s.kill points, h)) }, children s o)

------------------------------------------------------------------------
-- Room for more than a store's records

pending_few : (w : List ℕ) → well_formed w ≡ true → pending_in w ≤ most_records
unfolding pending_in
pending_few w h = stored_few (well_formed-stored w h)

cut_leb : (p room cap : ℕ) → p ≤ cap → leb p (min room cap) ≡ leb p room
cut_leb p room cap few = cases (leb p room)
    (λ h. le-leb p (min room cap) (omega (arith, leb-true p room h, few)) ∙ sym h)
    (λ h. lt-leb p (min room cap) (omega (arith, leb-false p room h)) ∙ sym h)

-- what a segment lists of a well-formed store, whatever the room
pub segment_most : (s : Settings) (prints : PrintSegment) (w : List ℕ) → well_formed w ≡ true
    → (length (elected_entries s (segment s.kill prints (book_of w))) ≤ most_records)
    × (All UuidChild (elected_entries s (segment s.kill prints (book_of w))))
    × (length (segment s.kill prints (book_of w)).moved ≤ 2 * most_records)
unfolding pending_in
segment_most s prints w formed =
    let few = pending_few w formed in
    let listed = evaluation_lists s most_records (segment_points s.kill prints (book_of w)) few in
    (listed.0.few, listed.1, omega (arith, segment-moves s.kill prints (book_of w), few))

------------------------------------------------------------------------
-- Walk

module _ (s : Settings) (prev : Option Price) (prices : List Price) (w : List ℕ) where
  pub walk_lists : (room : ℕ)
      → ListsElected (elected_count (walk_call s prev prices w room).answer)
      (walk_call s prev prices w room).elected room
  unfolding walk_call elected_count counts_of
  walk_lists room =
      decide_outcomes (λ (o : WalkOutcome). ListsElected (elected_count o.answer) o.elected room)
      (first_no (walk_questions prices w room)) _ _
      (λ k. nothing_listed room)
      (λ h. evaluation_lists s room (walk_points s.kill prev prices (book_of w))
      (walk_room prices w room (sym h)))

  walk_questions_lem : (room : ℕ)
      → first_no (walk_questions prices w (min room most_records)) ≡ first_no (walk_questions prices w room)
  unfolding first_no walk_questions
  walk_questions_lem room =
      cases (well_formed w) (λ h. rw (cut_leb (pending_in w) room most_records (pending_few w h))) (λ h. rw h)

  pub walk_cut : (room : ℕ) → walk_call s prev prices w (min room most_records) ≡ walk_call s prev prices w room
  unfolding walk_call
  walk_cut room = rw (walk_questions_lem room)

------------------------------------------------------------------------
-- Pass

module _ (script w : List ℕ) (room : ℕ) where
  pass_questions_lem : first_no (pass_questions script w (min room most_records)) ≡ first_no (pass_questions script w room)
  unfolding first_no pass_questions
  pass_questions_lem = cases (well_formed w) (λ h. rw (cut_leb (pending_in w) room most_records (pending_few w h))) (λ h. rw h)

module _ (s : Settings) (script : List ℕ) (prints : PrintSegment) (w : List ℕ) where
  passed_lists : (room : ℕ) → first_no (pass_questions script w room) ≡ None
      → ListsElected (pass_count (passed s script prints w).answer) (passed s script prints w).elected room
  unfolding passed pass_count
  passed_lists room h = (
    record { counted = refl; few = omega (arith, pass_count_lem s script prints (book_of w), pass_elected script w room h) },
    pass_children s script prints (book_of w),
  )

  pub pass_lists : (room : ℕ)
      → ListsElected (pass_count (pass_call s script prints w room).answer)
      (pass_call s script prints w room).elected room
  unfolding pass_call pass_count
  pass_lists room =
      decide_outcomes (λ (o : PassOutcome). ListsElected (pass_count o.answer) o.elected room)
      (first_no (pass_questions script w room)) _ _
      (λ k. nothing_listed room) (passed_lists room)

  pub pass_cut : (room : ℕ) → pass_call s script prints w (min room most_records) ≡ pass_call s script prints w room
  unfolding pass_call
  pass_cut room = rw (pass_questions_lem script w room)

------------------------------------------------------------------------
-- Run

module _ (s : Settings) (script : List ℕ) (trade : Option Price) (w : List ℕ) (path : PrintPath) where
  pub run_lists : (room : ℕ)
      → ListsElected (pass_count (run_call s script trade w room path).answer)
      (run_call s script trade w room path).elected room
  unfolding run_call run_over pass_count
  run_lists room =
      decide_outcomes (λ (o : RunOutcome). ListsElected (pass_count o.answer) o.elected room)
      (first_no (pass_questions script w room)) _ _
      (λ k. nothing_listed room)
      (λ h. cases (eqb (pending_in w) 0 || not path.«open») (λ q. rw q (nothing_listed room))
      (λ q. rw q (passed_lists s script (segment_of path trade) w room h)))

  pub run_cut : (room : ℕ) → run_call s script trade w (min room most_records) path ≡ run_call s script trade w room path
  unfolding run_call
  run_cut room = rw (pass_questions_lem script w room)

------------------------------------------------------------------------
-- Segment

module _ (s : Settings) (prints : PrintSegment) (w : List ℕ) (elected moved : ℕ) where
  abbrev segment_to : SegmentOutcome
  segment_to = segment_call s prints w elected moved

  pub segment_lists : ListsElected (elected_count segment_to.answer) segment_to.elected elected
      × Listed (moved_count segment_to.answer) segment_to.moved moved
  unfolding segment_call elected_count moved_count counts_of
  segment_lists =
      decide_outcomes (λ (o : SegmentOutcome). ListsElected (elected_count o.answer) o.elected elected
      × Listed (moved_count o.answer) o.moved moved) (first_no (segment_questions w elected moved)) _ _
      (λ k. (nothing_listed elected, record { counted = refl; few = zero-le }))
      (λ h. (
        evaluation_lists s elected (segment_points s.kill prints (book_of w))
            (segment_room w elected moved (sym h)).0,
        record {
          counted = refl;
          few = omega (arith, segment-moves s.kill prints (book_of w), (segment_room w elected moved (sym h)).1);
        },
      ))

  segment_questions_lem : first_no (segment_questions w (min elected most_records) (min moved (2 * most_records))) ≡ first_no
      (segment_questions w elected moved)
  unfolding first_no segment_questions
  segment_questions_lem = cases (well_formed w)
      (λ h. rw (
        cut_leb (pending_in w) elected most_records (pending_few w h),
        cut_leb (2 * pending_in w) moved (2 * most_records) (omega (arith, pending_few w h)),
      )) (λ h. rw h)

  pub segment_cut : segment_call s prints w (min elected most_records) (min moved (2 * most_records)) ≡ segment_to
  unfolding segment_call
  segment_cut = rw segment_questions_lem

------------------------------------------------------------------------
-- Step

module _ (s : Settings) (falls : Bool) (from : Option Price) (price : Price) (w : List ℕ) (elected moved : ℕ) where
  abbrev step_to : SegmentOutcome
  step_to = step_call s falls from price w elected moved

  pub step_lists : ListsElected (elected_count step_to.answer) step_to.elected elected
      × Listed (moved_count step_to.answer) step_to.moved moved
  unfolding step_call elected_count moved_count counts_of
  step_lists =
      let first = sells_first falls from price in
      decide_outcomes (λ (o : SegmentOutcome). ListsElected (elected_count o.answer) o.elected elected
      × Listed (moved_count o.answer) o.moved moved) (first_no (step_questions w elected moved)) _ _
      (λ k. (nothing_listed elected, record { counted = refl; few = zero-le }))
      (λ h. (
        evaluation_lists s elected (point_points s.kill first price (book_of w)) (step_room w elected moved (sym h)).0,
        record {
          counted = refl;
          few = omega (arith, point-moves s.kill first price (book_of w), (step_room w elected moved (sym h)).1);
        },
      ))

  step_questions_lem : first_no (step_questions w (min elected most_records) (min moved most_records)) ≡ first_no
      (step_questions w elected moved)
  unfolding first_no step_questions
  step_questions_lem = cases (well_formed w)
      (λ h. rw (
        cut_leb (pending_in w) elected most_records (pending_few w h),
        cut_leb (pending_in w) moved most_records (pending_few w h),
      )) (λ h. rw h)

  pub step_cut : step_call s falls from price w (min elected most_records) (min moved most_records) ≡ step_to
  unfolding step_call
  step_cut = rw step_questions_lem
