-- What a commit answers and leaves, by what the segment on the copy did with the most room for its lists.
use Prim.Native.Nat.{ℕ, ◌*◌, ◌≤◌, min}
use mathlib.Core.Path.{◌≡◌, refl, sym, ap, ◌∙◌}
use mathlib.Core.Bool.{Bool, true, false, ◌&&◌}
use mathlib.Core.List.{List, ◌++◌, map}
use native.Mathlib.Omega.{arith}
use borrow.Author.Tests.{le-leb}
use borrow.Table.Steps.{cases}
use lib.ListN.{length, take, drop, length-map, length-append}
use lib.Seq.{take-take, length-take-le}
use Rattle.error.specs.Answer.{refused, accepted, told_answer}
use Rattle.error.specs.Questions.{first_no, decide}
use Rattle.error.specs.Refusal.{refusal_number}
use Rattle.error.specs.declared.Refusal.{Refusal}
use Rattle.error.specs.declared.Refusal.TheVariants.{ListsDiffer}
use Rattle.book.proofs.AskedCommitted.{given, shifted, commit_same, commit-other}
use Rattle.book.specs.Calls.{SegmentOutcome, elected_entry, elected_entries, written, counts_of, pending_in, segment_questions, segment_call}
use Rattle.book.specs.Commit.{same_words, commit_questions, commit_call}
use Rattle.book.specs.Entries.{elected_words, moved_words}
use Rattle.book.specs.Evaluation.{Evaluated, segment}
use Rattle.book.specs.Lists.{same_by, same_list}
use Rattle.book.specs.Sizes.{most_records}
use Rattle.book.specs.Store.{StoreOutcome, stored_book}
use Rattle.book.specs.Words.{book_of, well_formed}
use Rattle.book.specs.declared.Counts.{Counts}
use Rattle.book.specs.declared.PrintSegment.{PrintSegment}
use Rattle.book.specs.declared.Settings.{Settings}
use Rattle.evaluation.proofs.Questions.{count_word, count_few}
use Rattle.evaluation.proofs.Rooms.{written_taken}
use Rattle.std.specs.Prelude.{Err, Ok, Result}

-- the words of the copy written over the store's
pub written_back : (w copied v : List ℕ) (most many n : ℕ) → many ≤ length copied → many ≡ min most (length w)
    → n ≡ min (length w) (length (take many copied))
    → v ≡ take n (take many copied) ++ drop n w → v ≡ take many copied ++ drop many w
written_back w copied v most many n fits counted is e =
    let size : length (take many copied) ≡ many = length-take-le many copied fits in
    let all : n ≡ many = omega arith in
    e ∙ rw all (ap (λ (l : List ℕ). l ++ drop many w) (take-take many many copied (omega arith)))

-- the segment on w, with lists that have the most room
module _ (s : Settings) (prints : PrintSegment) (w : List ℕ) (room-e room-m : List (List ℕ))
    (e-size : length room-e ≡ most_records) (m-size : length room-m ≡ 2 * most_records) where
  abbrev after : Evaluated
  after = segment s.kill prints (book_of w)

  abbrev whole : SegmentOutcome
  whole = segment_call s prints w (length room-e) (length room-m)

  whole-formed : well_formed w ≡ true → whole ≡ record {
    answer = accepted (counts_of after);
    words = stored_book after.book w;
    elected = given s prints w;
    moved = shifted s prints w;
  }
  unfolding segment_call segment_questions first_no decide
  whole-formed formed =
      let few : pending_in w ≤ most_records = rw (count_word w formed) at (count_few w formed) in
      simp (
        formed,
        le-leb (pending_in w) (length room-e) (omega (arith, few, e-size)),
        le-leb (2 * pending_in w) (length room-m) (omega (arith, few, m-size)),
      )

  whole_damaged : well_formed w ≡ false → whole.answer ≡ refused 1
  unfolding segment_call segment_questions first_no decide
  whole_damaged e = rw e

  module _ (elected moved : List (List ℕ)) where
    abbrev commit : StoreOutcome Counts
    commit = commit_call (same_words elected moved) s prints w

    commit_damaged : well_formed w ≡ false → commit ≡ record { answer = refused 1; words = w }
    unfolding commit_call commit_questions first_no decide
    commit_damaged e = rw e

    -- the segment was refused
    pub commit_refused : (r : Result Counts Refusal) (e : Refusal) → r ≡ Err e → told_answer r ≡ whole.answer
        → (told_answer r ≡ commit.answer) × (w ≡ commit.words)
    unfolding told_answer
    commit_refused r e is h = cases (well_formed w)
        (λ f.
        let no : refused (refusal_number e) ≡ accepted (counts_of after) =
        sym (ap told_answer is) ∙ h ∙ ap (λ o. o.answer) (whole-formed f) in
        let z : ◌≡◌ {A = ℕ} 0 1 = cc in
        absurd (omega arith))
        (λ f. rw (commit_damaged f) (h ∙ whole_damaged f, refl))

    -- the segment was accepted, with these counts: the store is well formed
    module _ (c : Counts) (h : told_answer (Ok c) ≡ whole.answer) where
      accepted-formed : (well_formed w ≡ true) × (c ≡ counts_of after)
      unfolding told_answer
      accepted-formed = cases (well_formed w)
          (λ f. let yes : accepted c ≡ accepted (counts_of after) = h ∙ ap (λ o. o.answer) (whole-formed f) in (f, cc))
          (λ f.
          let no : accepted c ≡ refused 1 = h ∙ whole_damaged f in
          let z : ◌≡◌ {A = ℕ} 0 1 = cc in
          absurd (omega arith))

      -- what was listed, in lists that had room for it
      module _ (listed-e listed-m : List (List ℕ))
          (e-is : listed-e ≡ written (map elected_words whole.elected) room-e)
          (m-is : listed-m ≡ written (map moved_words whole.moved) room-m) where
        counted : (c.elected ≡ length (map elected_words whole.elected))
            × (c.moves ≡ length (map moved_words whole.moved))
        unfolding counts_of elected_entries
        counted =
            let f = accepted-formed in
            rw (whole-formed f.0, f.1) (
              sym (length-map (map (elected_entry s after.book) after.fills) elected_words ∙ length-map after.fills (elected_entry s after.book)),
              sym (length-map after.moved moved_words),
            )

        pub lists-counted : (c.elected ≤ length listed-e) × (c.moves ≤ length listed-m)
        unfolding written
        lists-counted = (
          rw (e-is, length-append) (omega (arith, counted.0)),
          rw (m-is, length-append) (omega (arith, counted.1)),
        )

        lists_same : (same_by same_list elected (take c.elected listed-e) && same_by same_list moved (take c.moves listed-m))
            ≡ same_words elected moved (given s prints w) (shifted s prints w)
        unfolding same_words
        lists_same =
            let o = whole-formed accepted-formed.0 in
            rw (
              e-is,
              m-is,
              written_taken (map elected_words whole.elected) room-e c.elected counted.0,
              written_taken (map moved_words whole.moved) room-m c.moves counted.1,
              o,
            )

        module _ (r : Bool)
            (is : r ≡ (same_by same_list elected (take c.elected listed-e) && same_by same_list moved (take c.moves listed-m))) where
          pub commit_differing : r ≡ false → (told_answer (Err ListsDiffer) ≡ commit.answer) × (w ≡ commit.words)
          unfolding told_answer
          commit_differing n =
              rw (commit-other s prints w (same_words elected moved) accepted-formed.0 (sym lists_same ∙ sym is ∙ n)) (refl, refl)

          pub commit_done : r ≡ true → (v : List ℕ) → v ≡ whole.words
              → (told_answer (Ok c) ≡ commit.answer) × (v ≡ commit.words)
          unfolding told_answer
          commit_done y v words =
              let f = accepted-formed in
              rw (commit_same s prints w (same_words elected moved) f.0 (sym lists_same ∙ sym is ∙ y))
              (ap accepted f.1, words ∙ ap (λ o. o.words) (whole-formed f.0))
