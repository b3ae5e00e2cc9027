-- An accepted call that evaluates leaves a well-formed store, which reads as the book after the evaluation and has lost
-- as many stops as the call answers that it elected.
use Prim.Native.Nat.{ℕ, ◌+◌}
use mathlib.Core.Path.{◌≡◌, refl}
use mathlib.Core.Bool.{Bool, true, false, cond, not, ◌||◌}
use mathlib.Core.List.{List}
use native.Mathlib.Omega.{arith}
use lib.Dec.{eqb}
use lib.ListN.{get_or}
use Rattle.error.specs.Answer.{accepted}
use Rattle.pricelevel.specs.declared.Price.{Price}
use Rattle.book.proofs.Accepted.{Accepted, decide_accepted, book-stored}
use Rattle.book.proofs.Walks.{Kept, PriceFits, PointsAt, point_points, segment_points, walk_points, points-valid, points_fits, points_kept, points_count, SegmentFits, segment_prices_fits}
use Rattle.book.specs.Lists.{All}
use Rattle.book.proofs.Passes.{pass-valid, pass_fits, pass_kept, pass_count_lem}
use Rattle.book.proofs.Questions.{first_no_none}
use Rattle.book.specs.Valid.{Valid, Fits}
use Rattle.book.proofs.WellFormed.{IsWord, Stored}
use Rattle.book.specs.Book.{Book, pending_count}
use Rattle.book.specs.Calls.{Settings, Counts, counts_of, PassCounts, SegmentOutcome, pending_in, segment_questions, segment_call, WalkOutcome, walk_questions, walk_call, pass, PassOutcome, pass_questions, passed, pass_call, RunOutcome, run_over, run_call}
use Rattle.book.specs.Commit.{commit_questions, commit_call}
use Rattle.book.specs.Evaluation.{Evaluated, sells_first, segment, walk}
use Rattle.book.specs.Path.{last_or, segment_of}
use Rattle.book.specs.StepCall.{stepped, step_questions, step_call}
use Rattle.book.specs.Store.{StoreOutcome, stored_book}
use Rattle.book.specs.Words.{book_of, well_formed}
use Rattle.book.specs.declared.Elected.{Elected}
use Rattle.book.specs.declared.Moved.{Moved}
use Rattle.book.specs.declared.PrintPath.{PrintPath}
use Rattle.book.specs.declared.PrintSegment.{PrintSegment}
use Rattle.std.specs.Prelude.{None, Option, Some}

-- what w is after an evaluation that leaves the book b and answers that it elected so many
pub record Lost (b : Book) (elected : ℕ) (w after : List ℕ) : Type 0 where
  pub stored : Stored (get_or w 0 0) b w after
  pub count : pending_in w ≡ pending_in after + elected

-- the value that is answered has the number elected
evaluated_lost : {B : Type 0} (b : Book) (w : List ℕ) (number : B → ℕ) (v : B) → well_formed w ≡ true
    → (Valid (book_of w) → Valid b)
    → (Fits (book_of w) → Fits b) → Kept (book_of w) b
    → pending_count (book_of w).slots ≡ pending_count b.slots + number v → (a : Accepted (accepted v))
    → Lost b (number a.0) w (stored_book b w)
unfolding pending_in
evaluated_lost b w number v formed valid fits kept n a =
    let s = book-stored b w formed valid fits kept.records in
    let e : v ≡ a.0 = cc a.1 in
    rw (← e) (record { stored = s; count = rw s.reads n })

points_lost : (kill : Bool) (w : List ℕ) {ps : List Price} {o : Evaluated} → PointsAt kill ps (book_of w) o
    → All PriceFits ps → well_formed w ≡ true
    → (a : Accepted (accepted (counts_of o))) → Lost o.book a.0.elected w (stored_book o.book w)
unfolding counts_of
points_lost kill w {o = o} r fits formed =
    evaluated_lost o.book w (λ v. v.elected) (counts_of o) formed (points-valid kill r) (points_fits kill r fits)
    (points_kept kill r)
    (points_count kill r)

-- the last trade, if there is one, is below 2^64
abbrev pub TradeFits : Option Price → Type 0
TradeFits None = Unit {0}
TradeFits (Some p) = PriceFits p

pub segment_of_fits : (path : PrintPath) (trade : Option Price) → PriceFits path.first → TradeFits trade
    → SegmentFits (segment_of path trade)
unfolding segment_of last_or
segment_of_fits path None h k = record { first = h; last = h }
segment_of_fits path (Some p) h k = record { first = h; last = k }

-- a run that does nothing
idle_lost : (w : List ℕ) → well_formed w ≡ true → (v : PassCounts) → v.elected ≡ 0 → (a : Accepted (accepted v))
    → Lost (book_of w) a.0.elected w w
idle_lost w formed v h a =
    let e : v ≡ a.0 = cc a.1 in
    rw (← e) (record {
      stored = record { formed = formed; reads = refl; size = refl; beyond = refl };
      count = omega arith;
    })

-- what is left whichever of two outcomes it is
either_lost : (w : List ℕ) (t : Bool) (x y : RunOutcome) (c d : Book)
    → ((a : Accepted x.answer) → Lost c a.0.elected w x.words)
    → ((a : Accepted y.answer) → Lost d a.0.elected w y.words) → (a : Accepted (cond t x y).answer)
    → Lost (cond t c d) a.0.elected w (cond t x y).words
either_lost w true x y c d f g = f
either_lost w false x y c d f g = g

-- the book after the run over path and store: as it was where nothing is pending or the path is closed
abbrev pub run_book : Settings → List ℕ → Option Price → List ℕ → PrintPath → Book
run_book s script trade w path =
    cond (eqb (pending_in w) 0 || not path.«open») (book_of w) (pass s script (segment_of path trade) (book_of w)).book

module _ (s : Settings) (w : List ℕ) (elected : ℕ) where
  pub segment_call_lost : (prints : PrintSegment) (moved : ℕ) → SegmentFits prints
      → (a : Accepted (segment_call s prints w elected moved).answer)
      → Lost (segment s.kill prints (book_of w)).book a.0.elected w (segment_call s prints w elected moved).words
  unfolding segment_call segment_questions
  segment_call_lost prints moved fits =
      decide_accepted (λ (o : SegmentOutcome). o.answer)
      (λ o v. Lost (segment s.kill prints (book_of w)).book v.elected w o.words) _ _ _ (λ k. refl)
      (λ e. points_lost s.kill w (segment_points s.kill prints (book_of w)) (segment_prices_fits prints fits)
      (first_no_none (segment_questions w elected moved) e).0)

  pub commit_call_lost : (same : List Elected → List Moved → Bool) (prints : PrintSegment) → SegmentFits prints
      → (a : Accepted (commit_call same s prints w).answer)
      → Lost (segment s.kill prints (book_of w)).book a.0.elected w (commit_call same s prints w).words
  unfolding commit_call commit_questions
  commit_call_lost same prints fits =
      decide_accepted (λ (o : StoreOutcome Counts). o.answer)
      (λ o v. Lost (segment s.kill prints (book_of w)).book v.elected w o.words) _ _ _ (λ k. refl)
      (λ e. points_lost s.kill w (segment_points s.kill prints (book_of w)) (segment_prices_fits prints fits)
      (first_no_none (commit_questions same s prints w) e).0)

  pub step_call_lost : (falls : Bool) (from : Option Price) (price : Price) (moved : ℕ) → PriceFits price
      → (a : Accepted (step_call s falls from price w elected moved).answer)
      → Lost (stepped s.kill falls from price (book_of w)).book a.0.elected w
      (step_call s falls from price w elected moved).words
  unfolding step_call step_questions
  step_call_lost falls from price moved fits =
      decide_accepted (λ (o : SegmentOutcome). o.answer)
      (λ o v. Lost (stepped s.kill falls from price (book_of w)).book v.elected w o.words) _ _ _ (λ k. refl)
      (λ e. points_lost s.kill w (point_points s.kill (sells_first falls from price) price (book_of w)) (fits, tt)
      (first_no_none (step_questions w elected moved) e).0)

  pub walk_call_lost : (prev : Option Price) (prices : List Price) → All PriceFits prices
      → (a : Accepted (walk_call s prev prices w elected).answer)
      → Lost (walk s.kill prev prices (book_of w)).book a.0.elected w (walk_call s prev prices w elected).words
  unfolding walk_call walk_questions
  walk_call_lost prev prices fits =
      decide_accepted (λ (o : WalkOutcome). o.answer)
      (λ o v. Lost (walk s.kill prev prices (book_of w)).book v.elected w o.words) _ _ _ (λ k. refl)
      (λ e. points_lost s.kill w (walk_points s.kill prev prices (book_of w)) fits
      (first_no_none (walk_questions prices w elected) e).0)

  module _ (script : List ℕ) (words : All IsWord script) where
    passed_lost : (prints : PrintSegment) → SegmentFits prints → well_formed w ≡ true
        → (a : Accepted (passed s script prints w).answer)
        → Lost (pass s script prints (book_of w)).book a.0.elected w (passed s script prints w).words
    unfolding passed
    passed_lost prints fits formed =
        let b = book_of w in
        evaluated_lost (pass s script prints b).book w (λ v. v.elected) _ formed (pass-valid s script prints b)
        (pass_fits s script prints b words fits)
        (pass_kept s script prints b) (pass_count_lem s script prints b)

    pub pass_call_lost : (prints : PrintSegment) → SegmentFits prints
        → (a : Accepted (pass_call s script prints w elected).answer)
        → Lost (pass s script prints (book_of w)).book a.0.elected w (pass_call s script prints w elected).words
    unfolding pass_call pass_questions
    pass_call_lost prints fits =
        decide_accepted (λ (o : PassOutcome). o.answer)
        (λ o v. Lost (pass s script prints (book_of w)).book v.elected w o.words) _ _ _ (λ k. refl)
        (λ e. passed_lost prints fits (first_no_none (pass_questions script w elected) e).0)

    pub run_call_lost : (trade : Option Price) (path : PrintPath) → PriceFits path.first → TradeFits trade
        → (a : Accepted (run_call s script trade w elected path).answer)
        → Lost (run_book s script trade w path) a.0.elected w (run_call s script trade w elected path).words
    unfolding run_call run_over pass_questions
    run_call_lost trade path h k =
        decide_accepted (λ (o : RunOutcome). o.answer)
        (λ o v. Lost (run_book s script trade w path) v.elected w o.words) _ _ _ (λ k. refl)
        (λ e.
        let formed = (first_no_none (pass_questions script w elected) e).0 in
        either_lost w (eqb (pending_in w) 0 || not path.«open») _ _ _ _ (idle_lost w formed _ refl)
        (passed_lost (segment_of path trade) (segment_of_fits path trade h k) formed))
