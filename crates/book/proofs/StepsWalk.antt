-- The steps along a run do what its walk does.
use Prim.Native.Nat.{ℕ, ◌≤◌, ◌+◌}
use mathlib.Core.Path.{◌≡◌, refl, sym, ap, ap₂, ◌∙◌}
use mathlib.Core.Bool.{Bool, true}
use mathlib.Core.List.{List, [], ◌∷◌, ◌++◌, map, map-append}
use native.Mathlib.Omega.{arith}
use borrow.Author.Tests.{le-leb}
use lib.ListN.{length, get_or, drop, length-append, length-map}
use Rattle.error.specs.Answer.{accepted}
use Rattle.error.specs.Questions.{first_no, decide}
use Rattle.pricelevel.specs.declared.Price.{Price}
use Rattle.book.proofs.Accepted.{book-stored}
use Rattle.book.proofs.AlikeOutcomes.{walk_accepted}
use Rattle.book.proofs.PointCounts.{point_count}
use Rattle.book.proofs.Questions.{first_no_of}
use Rattle.book.proofs.Walks.{PriceFits, point-valid, point_fits, point_kept}
use Rattle.book.proofs.WellFormed.{Stored, well_formed-layout, book_of_slots_length}
use Rattle.book.specs.Book.{Book, pending_count}
use Rattle.book.specs.Calls.{Counts, Settings, SegmentOutcome, elected_entry, elected_entries, counts_of, pending_in, walk_call}
use Rattle.book.specs.Evaluation.{Fill, Evaluated, point, sells_first, falls_to, and_then, walk_from, last_of, walk}
use Rattle.book.specs.Lists.{All}
use Rattle.book.specs.Sizes.{most_prices, store_length}
use Rattle.book.specs.StepCall.{stepped, step_questions, step_call, both_answers, step_and, steps_along, flagless, SteppedAlike}
use Rattle.book.specs.Store.{stored, stored_book}
use Rattle.book.specs.Words.{book_of, well_formed}
use Rattle.book.specs.declared.Elected.{Elected}
use Rattle.book.specs.declared.Moved.{Moved}
use Rattle.std.specs.Prelude.{None, Option, Some}

------------------------------------------------------------------------
-- Entries, whatever the book that decides the flag

flagless-entries : (s : Settings) (b c : Book) (l : List Fill)
    → map flagless (map (elected_entry s b) l) ≡ map flagless (map (elected_entry s c) l)
unfolding flagless elected_entry
flagless-entries s b c [] = refl
flagless-entries s b c (f ∷ l) =
    ap (λ (r : List Elected). flagless (elected_entry s b f) ∷ r) (flagless-entries s b c l)

------------------------------------------------------------------------
-- A book stored twice

stored_own : (w : List ℕ) → well_formed w ≡ true → w ≡ stored_book (book_of w) w
unfolding stored_book stored
stored_own w formed = well_formed-layout w formed

-- the store keeps its records and the words beyond it
stored_again : (b c : Book) (w after : List ℕ) → Stored (get_or w 0 0) b w after → length b.slots ≡ get_or w 0 0
    → stored_book c after ≡ stored_book c w
unfolding stored_book stored
stored_again b c w after h n =
    let e : get_or after 0 0 ≡ get_or w 0 0 = sym (book_of_slots_length after) ∙ ap (λ (x : Book). length x.slots) h.reads ∙ n in
    rw (e, h.beyond)

------------------------------------------------------------------------
-- A step

-- the outcome of a step that is accepted
abbrev accepted_step : Settings → List ℕ → Evaluated → SegmentOutcome
accepted_step s w o = record {
  answer = accepted (counts_of o);
  words = stored_book o.book w;
  elected = elected_entries s o;
  moved = o.moved;
}

module _ (s : Settings) (falls : Bool) (from : Option Price) (price : Price) (w : List ℕ) (formed : well_formed w ≡ true) where
  abbrev after : Evaluated
  after = stepped s.kill falls from price (book_of w)

  step-stored : PriceFits price → Stored (get_or w 0 0) after.book w (stored_book after.book w)
  step-stored fits =
      let first = sells_first falls from price in
      book-stored after.book w formed (point-valid s.kill first price (book_of w))
      (point_fits s.kill first price (book_of w) fits)
      (point_kept s.kill first price (book_of w)).records

  step_records : length after.book.slots ≡ get_or w 0 0
  step_records = (point_kept s.kill (sells_first falls from price) price (book_of w)).records ∙ book_of_slots_length w

  -- what is pending is no more
  step_few : PriceFits price → pending_in (stored_book after.book w) ≤ pending_in w
  unfolding pending_in
  step_few fits =
      rw (step-stored fits).reads
      (omega (arith, point_count s.kill (sells_first falls from price) price (book_of w)))

  module _ (elected moved : ℕ) (room : pending_in w ≤ elected) (moved_room : pending_in w ≤ moved) where
    step_questions_lem : first_no (step_questions w elected moved) ≡ None
    unfolding step_questions
    step_questions_lem =
        first_no_of (step_questions w elected moved)
        (formed, (rw (le-leb (pending_in w) elected room, le-leb (pending_in w) moved moved_room), tt))

    step_accepted : step_call s falls from price w elected moved ≡ accepted_step s w after
    unfolding step_call decide
    step_accepted = rw step_questions_lem

------------------------------------------------------------------------
-- Steps

-- what steps come to, against the points of a walk from the same words
record Steps (s : Settings) (w : List ℕ) (steps : SegmentOutcome) (o : Evaluated) : Type 0 where
  answer : steps.answer ≡ accepted (counts_of o)
  words : steps.words ≡ stored_book o.book w
  elected : map flagless steps.elected ≡ map flagless (elected_entries s o)
  moved : steps.moved ≡ o.moved

steps_and : (s : Settings) (w : List ℕ) (o r : Evaluated) (rest : SegmentOutcome)
    → stored_book r.book (stored_book o.book w) ≡ stored_book r.book w
    → Steps s (stored_book o.book w) rest r
    → Steps s w (step_and (accepted_step s w o) rest) (and_then o r)
unfolding step_and both_answers and_then counts_of elected_entries
steps_and s w o r rest again h = record {
  answer = rw (h.answer, length-append o.moved r.moved, length-append o.fills r.fills);
  words = h.words ∙ again;
  elected =
      map-append flagless (map (elected_entry s o.book) o.fills) rest.elected
      ∙ ap₂ (λ (x y : List Elected). x ++ y) (flagless-entries s o.book r.book o.fills) h.elected
      ∙ sym (map-append flagless (map (elected_entry s r.book) o.fills) (map (elected_entry s r.book) r.fills))
      ∙ ap (map flagless) (sym (map-append (elected_entry s r.book) o.fills r.fills));
  moved = ap (λ (l : List Moved). o.moved ++ l) h.moved;
}

module _ (s : Settings) (falls : Bool) (elected moved : ℕ) where
  steps_from : (from : Option Price) (ps : List Price) (w : List ℕ) → well_formed w ≡ true → All PriceFits ps
      → pending_in w ≤ elected → pending_in w ≤ moved
      → Steps s w (steps_along s falls from ps w elected moved) (walk_from s.kill falls from ps (book_of w))
  unfolding steps_along walk_from counts_of elected_entries
  steps_from from [] w formed fits room moved_room =
      record { answer = refl; words = stored_own w formed; elected = refl; moved = refl }
  steps_from from (p ∷ ps) w formed fits room moved_room =
      let o = stepped s.kill falls from p (book_of w) in
      let r = walk_from s.kill falls (Some p) ps o.book in
      let st = step-stored s falls from p w formed fits.0 in
      let few = step_few s falls from p w formed fits.0 in
      let rest = steps_from (Some p) ps (stored_book o.book w) st.formed fits.1
      (omega (arith, few, room)) (omega (arith, few, moved_room)) in
      rw (step_accepted s falls from p w formed elected moved room moved_room)
      (steps_and s w o r _ (stored_again o.book r.book w (stored_book o.book w) st (step_records s falls from p w formed))
      (rw st.reads at rest))

-- The steps along a run. For every well-formed store, every run of 1 to 4,096 prices that are words, prev or none, collar
-- or none, any namespace, kill switch on or off, and any lent lists with a place for every pending stop: if each step is
-- told whether the run falls from its first price to its last, then neither a step nor the walk is refused; the moves and
-- the elected of the steps are, summed, those that the walk answers; the steps list in turn what the walk lists, entry by
-- entry, in all but the flag; and the words that the last step leaves are the walk's.
pub steps-walk : (s : Settings) (prev : Option Price) (first : Price) (rest : List Price) (w : List ℕ)
    (elected moved run : ℕ)
    → well_formed w ≡ true → All PriceFits (first ∷ rest) → length (first ∷ rest) ≤ most_prices
    → pending_in w ≤ elected → pending_in w ≤ moved → pending_in w ≤ run
    → SteppedAlike (steps_along s (falls_to first (last_of first rest)) prev (first ∷ rest) w elected moved)
    (walk_call s prev (first ∷ rest) w run)
unfolding walk_call decide walk counts_of elected_entries
steps-walk s prev first rest w elected moved run formed fits few room moved_room run_room =
    let falls = falls_to first (last_of first rest) in
    let o = walk_from s.kill falls prev (first ∷ rest) (book_of w) in
    let h = steps_from s falls elected moved prev (first ∷ rest) w formed fits room moved_room in
    let steps = steps_along s falls prev (first ∷ rest) w elected moved in
    rw (walk_accepted w formed run run_room (first ∷ rest) (omega arith) few)
    (record {
      counts = counts_of o;
      steps_answer = h.answer;
      run_answer = refl;
      listed =
          sym (length-map steps.elected flagless) ∙ ap length h.elected
          ∙ length-map (map (elected_entry s o.book) o.fills) flagless
          ∙ length-map o.fills (elected_entry s o.book);
      listed_moves = ap length h.moved;
      alike = h.elected;
      stores = h.words;
    })
