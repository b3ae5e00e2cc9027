-- The step: a point at one price of a run, told where the run comes from and whether it falls as a whole, which one price
-- does not show. And what the steps along a run come to, one after the other.
use Rattle.std.specs.Prelude.{ℕ, ◌+◌, Bool, false, ◌&&◌, List, [], ◌∷◌, ◌++◌, map, ◌≡◌, leb, length, Option, Some}
use Rattle.error.specs.Answer.{Answer, refused, accepted}
use Rattle.error.specs.Questions.{Question, question, first_no, decide}
use Rattle.pricelevel.specs.declared.Price.{Price}
use Rattle.book.specs.Book.{Book}
use Rattle.book.specs.Calls.{Counts, Settings, SegmentOutcome, WalkOutcome, elected_entries, counts_of, pending_in}
use Rattle.book.specs.Evaluation.{Evaluated, point, sells_first}
use Rattle.book.specs.Store.{stored_book}
use Rattle.book.specs.Words.{book_of, well_formed}
use Rattle.book.specs.declared.Elected.{Elected}

-- a point of a walk: at a price arrived from another, of a run that falls as a whole or does not
abbrev pub stepped : Bool → Bool → Option Price → Price → Book → Evaluated
stepped kill falls from price b = point kill (sells_first falls from price) price b

-- both lists at least count entries? 14; a point moves a stop at most once
unfoldable pub step_questions : List ℕ → ℕ → ℕ → List Question
step_questions w elected moved =
    question 1 (well_formed w) ∷ question 14 (leb (pending_in w) elected && leb (pending_in w) moved) ∷ []

-- whether a child is pending is asked of the book after the step
unfoldable pub step_call : Settings → Bool → Option Price → Price → List ℕ → ℕ → ℕ → SegmentOutcome
step_call s falls from price w elected moved =
    let o : Evaluated = stepped s.kill falls from price (book_of w) in
    decide (first_no (step_questions w elected moved))
    (λ k. record { answer = refused k; words = w; elected = []; moved = [] })
    (record { answer = accepted (counts_of o); words = stored_book o.book w; elected = elected_entries s o; moved = o.moved })

------------------------------------------------------------------------
-- The steps along a run

-- two answers in turn: the first refusal, or the sums
unfoldable pub both_answers : Answer Counts → Answer Counts → Answer Counts
both_answers (refused k) b = refused k
both_answers (accepted c) (refused k) = refused k
both_answers (accepted c) (accepted d) = accepted (record { moves = c.moves + d.moves; elected = c.elected + d.elected })

-- one step, and what follows it
unfoldable pub step_and : SegmentOutcome → SegmentOutcome → SegmentOutcome
step_and o rest = record {
  answer = both_answers o.answer rest.answer;
  words = rest.words;
  elected = o.elected ++ rest.elected;
  moved = o.moved ++ rest.moved;
}

-- each step on the words that the step before left, arrived from its price, with lists of the same lengths
unfoldable pub steps_along : Settings → Bool → Option Price → List Price → List ℕ → ℕ → ℕ → SegmentOutcome
steps_along s falls from [] w elected moved =
    record { answer = accepted (record { moves = 0; elected = 0 }); words = w; elected = []; moved = [] }
steps_along s falls from (p ∷ ps) w elected moved =
    let o : SegmentOutcome = step_call s falls from p w elected moved in
    step_and o (steps_along s falls (Some p) ps o.words elected moved)

------------------------------------------------------------------------
-- The steps against the walk

-- an entry without its flag, which a walk decides at its end, and each step at its own
unfoldable pub flagless : Elected → Elected
flagless e = record {
  id = e.id;
  side = e.side;
  stop = e.stop;
  quantity = e.quantity;
  seq = e.seq;
  trigger = e.trigger;
  limit = e.limit;
  child = e.child;
  pending = false;
}

-- No step is refused, and neither is the walk. Both come to the same counts, and the steps list as many; the elected
-- entries are alike, entry by entry, in all but the flag; and the words are equal.
pub record SteppedAlike (steps : SegmentOutcome) (run : WalkOutcome) : Type 0 where
  pub counts : Counts
  pub steps_answer : steps.answer ≡ accepted counts
  pub run_answer : run.answer ≡ accepted counts
  pub listed : length steps.elected ≡ counts.elected
  pub listed_moves : length steps.moved ≡ counts.moves
  pub alike : map flagless steps.elected ≡ map flagless run.elected
  pub stores : steps.words ≡ run.words
