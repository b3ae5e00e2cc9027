-- Asking a segment and then committing it is the segment; and a commit is refused with 20 exactly where the store would
-- give other lists. Document 02, Six.
use Prim.Native.Nat.{ℕ}
use mathlib.Core.Path.{◌≡◌, refl, sym, ap, ◌∙◌}
use mathlib.Core.Bool.{Bool, true, false}
use mathlib.Core.List.{List, map}
use native.Mathlib.Omega.{arith}
use borrow.Table.Steps.{cases}
use Rattle.error.specs.Answer.{refused, accepted}
use Rattle.error.specs.Questions.{first_no, decide}
use Rattle.book.proofs.Accepted.{Accepted, decide_accepted}
use Rattle.book.proofs.Questions.{first_no_none}
use Rattle.book.proofs.SameEntries.{same_records_equal, same_records_refl, same_words_equal, same_words_refl}
use Rattle.book.specs.Calls.{Counts, Settings, SegmentOutcome, elected_entries, counts_of, segment_questions, segment_call}
use Rattle.book.specs.Commit.{AskOutcome, ask_call, same_records, same_words, commit_questions, commit_call, AskedCommitted, RefusedUnless}
use Rattle.book.specs.Entries.{elected_words, moved_words}
use Rattle.book.specs.Evaluation.{Evaluated, segment}
use Rattle.book.specs.Store.{StoreOutcome, stored_book}
use Rattle.book.specs.Words.{book_of, well_formed}
use Rattle.book.specs.declared.Elected.{Elected}
use Rattle.book.specs.declared.Moved.{Moved}
use Rattle.book.specs.declared.PrintSegment.{PrintSegment}
use Rattle.std.specs.Prelude.{None}

module _ (s : Settings) (prints : PrintSegment) (w : List ℕ) where
  abbrev after : Evaluated
  after = segment s.kill prints (book_of w)

  -- the lists that the store gives
  abbrev pub given : List Elected
  given = elected_entries s after

  abbrev pub shifted : List Moved
  shifted = after.moved

  ------------------------------------------------------------------------
  -- A commit, by whether the lists are those

  module _ (same : List Elected → List Moved → Bool) where
    pub commit_same : well_formed w ≡ true → same given shifted ≡ true
        → commit_call same s prints w ≡ record { answer = accepted (counts_of after); words = stored_book after.book w }
    unfolding commit_call commit_questions first_no decide
    commit_same formed e = simp (formed, e)

    pub commit-other : well_formed w ≡ true → same given shifted ≡ false
        → commit_call same s prints w ≡ record { answer = refused 20; words = w }
    unfolding commit_call commit_questions first_no decide
    commit-other formed e = simp (formed, e)

    -- an accepted segment did the same, whatever room its lists had
    pub commit-segment : (elected moved : ℕ) → None ≡ first_no (segment_questions w elected moved)
        → same given shifted ≡ true
        → ((commit_call same s prints w).answer ≡ (segment_call s prints w elected moved).answer)
        × ((commit_call same s prints w).words ≡ (segment_call s prints w elected moved).words)
    unfolding segment_call segment_questions decide
    commit-segment elected moved h e =
        let formed = (first_no_none (segment_questions w elected moved) (sym h)).0 in
        rw (commit_same formed e, ← h) (refl, refl)

    -- refused with 20 exactly where a fact does not hold that the test decides
    commit_decided : (Same : Type 0) → (same given shifted ≡ true → Same) → (Same → same given shifted ≡ true)
        → well_formed w ≡ true → RefusedUnless 20 Same (commit_call same s prints w).answer
    commit_decided Same equal test formed = record {
      only_then = λ no is.
          let done : accepted (counts_of after) ≡ refused 20 =
          sym (ap (λ (o : StoreOutcome Counts). o.answer) (commit_same formed (test is))) ∙ no in
          let z : ◌≡◌ {A = ℕ} 0 1 = cc in
          omega arith;
      then = λ differ. cases (same given shifted) (λ e. absurd (differ (equal e)))
          (λ e. ap (λ (o : StoreOutcome Counts). o.answer) (commit-other formed e));
    }

  -- tests that say the same of what a well-formed store gives are one
  pub commit_tests : (same test : List Elected → List Moved → Bool)
      → (well_formed w ≡ true → same given shifted ≡ test given shifted)
      → commit_call same s prints w ≡ commit_call test s prints w
  unfolding commit_call commit_questions first_no decide
  commit_tests same test h = cases (well_formed w) (λ e. rw (h e)) (λ e. rw e)

  ------------------------------------------------------------------------
  -- On a well-formed store a commit is refused with 20 exactly where the lists are not those that the store gives

  pub commit_exact : (elected : List Elected) (moved : List Moved) → well_formed w ≡ true
      → RefusedUnless 20 ((elected ≡ given) × (moved ≡ shifted)) (commit_call (same_records elected moved) s prints w).answer
  commit_exact elected moved =
      commit_decided (same_records elected moved) ((elected ≡ given) × (moved ≡ shifted))
      (same_records_equal elected given moved shifted) (λ is. rw (is.0, is.1) (same_records_refl given shifted))

  pub commit_exact_words : (elected moved : List (List ℕ)) → well_formed w ≡ true
      → RefusedUnless 20 ((elected ≡ map elected_words given) × (moved ≡ map moved_words shifted))
      (commit_call (same_words elected moved) s prints w).answer
  commit_exact_words elected moved =
      commit_decided (same_words elected moved) ((elected ≡ map elected_words given) × (moved ≡ map moved_words shifted))
      (same_words_equal elected moved given shifted) (λ is. rw (is.0, is.1) (same_words_refl given shifted))

  ------------------------------------------------------------------------
  -- Asked, then committed

  -- For every segment, settings and words, and lists of any room: where asking is accepted, a commit of what it listed,
  -- with no call between, is accepted, and the two are the segment.
  module _ (elected moved : ℕ) where
    abbrev asked : AskOutcome
    asked = ask_call s prints w elected moved

    accepted_none : Accepted asked.answer → None ≡ first_no (segment_questions w elected moved)
    unfolding segment_call
    accepted_none = decide_accepted (λ (o : SegmentOutcome). o.answer)
        (λ o v. None ≡ first_no (segment_questions w elected moved)) _ _ _ (λ k. refl) (λ e a. sym e)

    ask_lists : None ≡ first_no (segment_questions w elected moved) → (asked.elected ≡ given) × (asked.moved ≡ shifted)
    unfolding segment_call decide
    ask_lists h = rw (← h) (refl, refl)

    committed : (same : List Elected → List Moved → Bool) → Accepted asked.answer
        → ((asked.elected ≡ given) × (asked.moved ≡ shifted) → same given shifted ≡ true)
        → AskedCommitted asked (commit_call same s prints w) (segment_call s prints w elected moved)
    committed same a test =
        let h : None ≡ first_no (segment_questions w elected moved) = accepted_none a in
        let c = commit-segment same elected moved h (test (ask_lists h)) in
        record { asked_answer = refl; elected = refl; moved = refl; committed_answer = c.0; words = c.1 }

    pub ask_commit : Accepted asked.answer
        → AskedCommitted asked (commit_call (same_records asked.elected asked.moved) s prints w)
        (segment_call s prints w elected moved)
    ask_commit a =
        committed (same_records asked.elected asked.moved) a (λ is. rw (is.0, is.1) (same_records_refl given shifted))

    pub ask_commit_words : Accepted asked.answer
        → AskedCommitted asked (commit_call (same_words (map elected_words asked.elected) (map moved_words asked.moved)) s prints w)
        (segment_call s prints w elected moved)
    ask_commit_words a =
        committed (same_words (map elected_words asked.elected) (map moved_words asked.moved)) a
        (λ is. rw (is.0, is.1) (same_words_refl given shifted))
