-- The calls that evaluate: segment, walk, pass and the run over path and store. An outcome has the entries that the
-- call lists; of a lent list the call asks its length alone. Document 01, The questions a call goes through; One point,
-- one segment, one pass.
use Rattle.std.specs.Prelude.{ℕ, zero, suc, ◌+◌, ◌*◌, not, cond, ◌&&◌, ◌||◌, List, [], ◌∷◌, ◌++◌, map, leb, eqb, length, drop, Option}
use Rattle.error.specs.Answer.{Answer, refused, accepted}
use Rattle.pricelevel.specs.declared.Price.{Price}
use Rattle.stop_protection.specs.Collar.{limit_under}
use Rattle.stop_trigger.specs.Child.{child_id}
use Rattle.book.specs.Book.{Book, side_of, pending_count}
use Rattle.book.specs.Evaluation.{Fill, Evaluated, segment, walk}
use Rattle.book.specs.Path.{segment_of, closed}
use Rattle.error.specs.Questions.{Question, question, first_no, decide}
use Rattle.book.specs.Script.{Executed, executed, script_formed}
use Rattle.book.specs.Sizes.{most_prices, script_entry_length}
use Rattle.book.specs.Store.{is_pending, stored_book}
use Rattle.book.specs.Words.{book_of, well_formed}
use Rattle.book.specs.declared.Elected.{Elected}
use Rattle.book.specs.declared.Moved.{Moved}
use Rattle.book.specs.declared.PrintPath.{PrintPath}
use Rattle.book.specs.declared.PrintSegment.{PrintSegment}
pub use Rattle.book.specs.declared.Counts.{Counts}
pub use Rattle.book.specs.declared.PassCounts.{PassCounts}
pub use Rattle.book.specs.declared.Settings.{Settings}

-- an elected entry: the stop as it left, the trigger price, the limit, the child identity, and whether that is pending
-- in the book after the segment, in a walk after its last price
unfoldable pub elected_entry : Settings → Book → Fill → Elected
elected_entry s b f =
    let t = f.stop in
    let child = child_id s.namespace t.id in
    record {
      id = t.id;
      side = side_of t;
      stop = t.terms.stop;
      quantity = t.quantity;
      seq = t.seq;
      trigger = f.trigger;
      limit = limit_under s.protection (side_of t) t.terms.stop;
      child = child;
      pending = is_pending child b;
    }

unfoldable pub elected_entries : Settings → Evaluated → List Elected
elected_entries s o = map (elected_entry s o.book) o.fills

-- what a lent list is after a call that lists entries: written from its start; later entries stay, and all of them
-- where none is listed
unfoldable pub written : {A : Type 0} → List A → List A → List A
written entries lent = entries ++ drop (length entries) lent

-- the numbers that an evaluation answers; only a pass uses script entries
unfoldable pub counts_of : Evaluated → Counts
counts_of o = record { moves = length o.moved; elected = length o.fills }

------------------------------------------------------------------------
-- Segment

-- the answer, the words after the call, and the entries that it lists
pub record SegmentOutcome : Type 0 where
  pub answer : Answer Counts
  pub words : List ℕ
  pub elected : List Elected
  pub moved : List Moved

unfoldable pub pending_in : List ℕ → ℕ
pending_in w = pending_count (book_of w).slots

-- elected list at least count entries, moved list at least 2 × count? 14
unfoldable pub segment_questions : List ℕ → ℕ → ℕ → List Question
segment_questions w elected moved =
    question 1 (well_formed w) ∷ question 14 (leb (pending_in w) elected && leb (2 * pending_in w) moved) ∷ []

unfoldable pub segment_call : Settings → PrintSegment → List ℕ → ℕ → ℕ → SegmentOutcome
segment_call s prints w elected moved =
    let o : Evaluated = segment s.kill prints (book_of w) in
    decide (first_no (segment_questions w elected moved))
    (λ k. record { answer = refused k; words = w; elected = []; moved = [] })
    (record { answer = accepted (counts_of o); words = stored_book o.book w; elected = elected_entries s o; moved = o.moved })

------------------------------------------------------------------------
-- Walk

-- of a walk, and of a pass, which counts more
pub record ListOutcome (A : Type 0) : Type 0 where
  pub answer : Answer A
  pub words : List ℕ
  pub elected : List Elected

abbrev pub WalkOutcome : Type 0
WalkOutcome = ListOutcome Counts

-- elected list at least count? 14; 1 to 4,096 prices? 16
unfoldable pub walk_questions : List Price → List ℕ → ℕ → List Question
walk_questions prices w elected =
    question 1 (well_formed w)
    ∷ question 14 (leb (pending_in w) elected)
    ∷ question 16 (leb 1 (length prices) && leb (length prices) most_prices)
    ∷ []

unfoldable pub walk_call : Settings → Option Price → List Price → List ℕ → ℕ → WalkOutcome
walk_call s prev prices w elected =
    let o : Evaluated = walk s.kill prev prices (book_of w) in
    decide (first_no (walk_questions prices w elected))
    (λ k. record { answer = refused k; words = w; elected = [] })
    (record { answer = accepted (counts_of o); words = stored_book o.book w; elected = elected_entries s o })

------------------------------------------------------------------------
-- Pass

-- a pass so far: the book, the entries elected, moves, script entries used
pub record Passed : Type 0 where
  pub book : Book
  pub entries : List Elected
  pub moves : ℕ
  pub used : ℕ

-- a segment of a pass: what it does, what its elected execute in turn, and the part of the script that starts after the
-- used entries
abbrev pub evaluated_in : Settings → PrintSegment → Book → Evaluated
evaluated_in s prints b = segment s.kill prints b

abbrev pub executed_in : Settings → List ℕ → PrintSegment → Book → Executed
executed_in s script prints b = executed script (elected_entries s (evaluated_in s prints b))

abbrev pub script_after : Settings → List ℕ → PrintSegment → Book → List ℕ
script_after s script prints b = drop (script_entry_length * (executed_in s script prints b).used) script

-- a pass that takes no segment, and one with a segment before it
abbrev pub ended : Book → Passed
ended b = record { book = b; entries = []; moves = 0; used = 0 }

abbrev pub with_segment : Settings → List ℕ → PrintSegment → Book → Passed → Passed
with_segment s script prints b rest = record {
  book = rest.book;
  entries = elected_entries s (evaluated_in s prints b) ++ rest.entries;
  moves = length (evaluated_in s prints b).moved + rest.moves;
  used = (executed_in s script prints b).used + rest.used;
}

-- takes segments from the queue until it or the store is empty. Each segment but the first stems from an elected stop,
-- so that one more than the count are enough
unfoldable pub pass_from : ℕ → Settings → List ℕ → List PrintSegment → Book → Passed
pass_from zero s script queue b = ended b
pass_from (suc k) s script [] b = ended b
pass_from (suc k) s script (prints ∷ queue) b =
    let rest : Passed =
    pass_from k s (script_after s script prints b) (queue ++ (executed_in s script prints b).segments)
    (evaluated_in s prints b).book in
    elim (pending_count b.slots) [ zero ↦ ended b | suc n ↦ with_segment s script prints b rest ]

unfoldable pub pass : Settings → List ℕ → PrintSegment → Book → Passed
pass s script prints b = pass_from (suc (pending_count b.slots)) s script (prints ∷ []) b

abbrev pub PassOutcome : Type 0
PassOutcome = ListOutcome PassCounts

-- elected list at least count? 14; script well formed? 15
unfoldable pub pass_questions : List ℕ → List ℕ → ℕ → List Question
pass_questions script w elected =
    question 1 (well_formed w)
    ∷ question 14 (leb (pending_in w) elected)
    ∷ question 15 (script_formed script)
    ∷ []

unfoldable pub passed : Settings → List ℕ → PrintSegment → List ℕ → PassOutcome
passed s script prints w =
    let o : Passed = pass s script prints (book_of w) in
    record {
      answer = accepted (record { moves = o.moves; elected = length o.entries; used = o.used });
      words = stored_book o.book w;
      elected = o.entries;
    }

unfoldable pub pass_call : Settings → List ℕ → PrintSegment → List ℕ → ℕ → PassOutcome
pass_call s script prints w elected =
    decide (first_no (pass_questions script w elected))
    (λ k. record { answer = refused k; words = w; elected = [] })
    (passed s script prints w)

------------------------------------------------------------------------
-- The run over path and store

pub record RunOutcome : Type 0 where
  pub answer : Answer PassCounts
  pub words : List ℕ
  pub elected : List Elected
  pub path : PrintPath

-- answers zeros and leaves all alone when nothing is pending or the path is closed, else takes it, passes, resets
unfoldable pub run_over : Settings → List ℕ → Option Price → List ℕ → PrintPath → RunOutcome
run_over s script trade w path =
    let o : PassOutcome = passed s script (segment_of path trade) w in
    cond (eqb (pending_in w) 0 || not path.«open»)
    (record { answer = accepted (record { moves = 0; elected = 0; used = 0 }); words = w; elected = []; path = path })
    (record { answer = o.answer; words = o.words; elected = o.elected; path = closed path })

-- it goes through the pass's questions first
unfoldable pub run_call : Settings → List ℕ → Option Price → List ℕ → ℕ → PrintPath → RunOutcome
run_call s script trade w elected path =
    decide (first_no (pass_questions script w elected))
    (λ k. record { answer = refused k; words = w; elected = []; path = path })
    (run_over s script trade w path)
