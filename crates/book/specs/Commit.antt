-- A segment asked and then committed: its lists are written while the store is only read, and later it is done, if the
-- store of that moment gives these very lists. Document 02, Six.
use Rattle.std.specs.Prelude.{ℕ, Bool, ◌&&◌, List, [], ◌∷◌, map, ◌≡◌, eqb}
use Rattle.error.specs.Answer.{Answer, refused, accepted}
use Rattle.error.specs.Questions.{Question, question, first_no, decide}
use Rattle.pricelevel.specs.Identity.{kind_number}
use Rattle.book.specs.Calls.{Counts, Settings, SegmentOutcome, elected_entries, counts_of, segment_call}
use Rattle.book.specs.Entries.{elected_words, moved_words}
use Rattle.book.specs.Evaluation.{Evaluated, segment}
use Rattle.book.specs.Lists.{same_by, same_list}
use Rattle.book.specs.Store.{StoreOutcome, stored_book}
use Rattle.book.specs.Words.{book_of, well_formed}
use Rattle.book.specs.declared.Elected.{Elected}
use Rattle.book.specs.declared.Moved.{Moved}
use Rattle.book.specs.declared.PrintSegment.{PrintSegment}

------------------------------------------------------------------------
-- Asking

-- a segment's answer and lists, refusals included (1, 14); the store is only read
pub record AskOutcome : Type 0 where
  pub answer : Answer Counts
  pub elected : List Elected
  pub moved : List Moved

abbrev pub ask_call : Settings → PrintSegment → List ℕ → ℕ → ℕ → AskOutcome
ask_call s prints w elected moved =
    let o : SegmentOutcome = segment_call s prints w elected moved in
    record { answer = o.answer; elected = o.elected; moved = o.moved }

------------------------------------------------------------------------
-- The lists that are handed in

-- in every field: an entry's words, and of an elected one the kind of its child, which they leave out
unfoldable pub same_moved : Moved → Moved → Bool
same_moved m n = same_list (moved_words m) (moved_words n)

unfoldable pub same_elected : Elected → Elected → Bool
same_elected e f =
    eqb (kind_number e.child.kind) (kind_number f.child.kind) && same_list (elected_words e) (elected_words f)

-- whether an evaluation's lists are the lists as handed in: records; or words, which need be those of no entry
unfoldable pub same_records : List Elected → List Moved → List Elected → List Moved → Bool
same_records elected moved listed shifted = same_by same_elected elected listed && same_by same_moved moved shifted

unfoldable pub same_words : List (List ℕ) → List (List ℕ) → List Elected → List Moved → Bool
same_words elected moved listed shifted =
    same_by same_list elected (map elected_words listed) && same_by same_list moved (map moved_words shifted)

------------------------------------------------------------------------
-- Committing

-- would the store of this moment give these lists? 20; the evaluation is the book's, so that no room for lists is asked
unfoldable pub commit_questions : (List Elected → List Moved → Bool) → Settings → PrintSegment → List ℕ → List Question
commit_questions same s prints w =
    let o : Evaluated = segment s.kill prints (book_of w) in
    question 1 (well_formed w) ∷ question 20 (same (elected_entries s o) o.moved) ∷ []

-- a segment's answer and words; no list is written
unfoldable pub commit_call : (List Elected → List Moved → Bool) → Settings → PrintSegment → List ℕ → StoreOutcome Counts
commit_call same s prints w =
    let o : Evaluated = segment s.kill prints (book_of w) in
    decide (first_no (commit_questions same s prints w))
    (λ k. record { answer = refused k; words = w })
    (record { answer = accepted (counts_of o); words = stored_book o.book w })

------------------------------------------------------------------------
-- Asked, then committed

-- asking and committing together are the segment: its answer by both, its lists, and its words
pub record AskedCommitted (asked : AskOutcome) (committed : StoreOutcome Counts) (whole : SegmentOutcome) : Type 0 where
  pub asked_answer : asked.answer ≡ whole.answer
  pub elected : asked.elected ≡ whole.elected
  pub moved : asked.moved ≡ whole.moved
  pub committed_answer : committed.answer ≡ whole.answer
  pub words : committed.words ≡ whole.words

-- refused with this number exactly where a fact does not hold
pub record RefusedUnless {A : Type 0} (number : ℕ) (Fact : Type 0) (answer : Answer A) : Type 0 where
  pub only_then : answer ≡ refused number → Fact → ⊥
  pub then : (Fact → ⊥) → answer ≡ refused number
