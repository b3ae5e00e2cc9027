-- The questions of the calls that evaluate: from what the code asked, and what they leave.
use Prim.Native.Nat.{ℕ, ◌*◌, ◌≤◌}
use native.Mathlib.Omega.{arith}
use mathlib.Core.Path.{◌≡◌, sym}
use mathlib.Core.Bool.{true}
use mathlib.Core.List.{List}
use borrow.Author.Tests.{leb-true}
use lib.Dec.{leb}
use lib.ListN.{length, get_or}
use Rattle.pricelevel.proofs.Bools.{and_parts}
use Rattle.pricelevel.specs.declared.Price.{Price}
use Rattle.book.proofs.Questions.{first_no_none}
use Rattle.book.specs.Book.{pending_count}
use Rattle.book.specs.Calls.{pending_in, segment_questions, walk_questions}
use Rattle.book.specs.StepCall.{step_questions}
use Rattle.error.specs.Questions.{first_no}
use Rattle.book.specs.Words.{book_of, well_formed}
use Rattle.book.specs.Sizes.{most_records, most_prices}
use Rattle.form_check.proofs.Counts.{pending_count_few}
use Rattle.pending_stops.proofs.Found.{well_formed-stored}
use Rattle.pending_stops.proofs.Found as finding
use Rattle.store_words.proofs.ChainsOf.{well_formed_room}
use Rattle.std.specs.Prelude.{None}

module _ (w : List ℕ) (e : well_formed w ≡ true) where
  pub count_word : get_or w 1 0 ≡ pending_in w
  unfolding pending_in
  count_word = finding.count_word (well_formed-stored w e)

  pub count_few : get_or w 1 0 ≤ most_records
  unfolding pending_in book_of
  count_few = rw count_word (omega (arith, pending_count_few w (get_or w 0 0), (well_formed_room w e).few))

------------------------------------------------------------------------
-- What the questions leave

module _ (w : List ℕ) (elected moved : ℕ) (h : None ≡ first_no (segment_questions w elected moved)) where
  pub segment-formed : well_formed w ≡ true
  unfolding segment_questions
  segment-formed = (first_no_none (segment_questions w elected moved) (sym h)).0

  pub segment_room : (pending_count (book_of w).slots ≤ elected) × (2 * pending_count (book_of w).slots ≤ moved)
  unfolding segment_questions pending_in
  segment_room =
      let q = and_parts (leb (pending_in w) elected) _ (first_no_none (segment_questions w elected moved) (sym h)).1.0 in
      (leb-true _ _ q.0, leb-true _ _ q.1)

module _ (w : List ℕ) (elected moved : ℕ) (h : None ≡ first_no (step_questions w elected moved)) where
  pub step-formed : well_formed w ≡ true
  unfolding step_questions
  step-formed = (first_no_none (step_questions w elected moved) (sym h)).0

  pub step_room : (pending_count (book_of w).slots ≤ elected) × (pending_count (book_of w).slots ≤ moved)
  unfolding step_questions pending_in
  step_room =
      let q = and_parts (leb (pending_in w) elected) _ (first_no_none (step_questions w elected moved) (sym h)).1.0 in
      (leb-true _ _ q.0, leb-true _ _ q.1)

module _ (prices : List Price) (w : List ℕ) (elected : ℕ) (h : None ≡ first_no (walk_questions prices w elected)) where
  pub walk-formed : well_formed w ≡ true
  unfolding walk_questions
  walk-formed = (first_no_none (walk_questions prices w elected) (sym h)).0

  pub walk_room : pending_count (book_of w).slots ≤ elected
  unfolding walk_questions pending_in
  walk_room = leb-true _ _ (first_no_none (walk_questions prices w elected) (sym h)).1.0

  pub walk_prices : (1 ≤ length prices) × (length prices ≤ most_prices)
  unfolding walk_questions
  walk_prices =
      let q = and_parts (leb 1 (length prices)) _ (first_no_none (walk_questions prices w elected) (sym h)).1.1.0 in
      (leb-true _ _ q.0, leb-true _ _ q.1)
