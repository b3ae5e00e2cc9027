-- What asking answered and listed, and a commit of that, come to the segment.
use Prim.Native.Nat.{ℕ, ◌≤◌}
use mathlib.Core.Path.{◌≡◌, sym, ap, ap₂, ◌∙◌}
use mathlib.Core.List.{List, map}
use native.Mathlib.Omega.{arith}
use lib.ListN.{length, take, length-map, length-append}
use Rattle.error.specs.Refusal.{refusal_number}
use Rattle.error.specs.declared.Refusal.{Refusal}
use Rattle.book.proofs.AskedCommitted.{ask_commit_words}
use Rattle.book.proofs.Refusals.{segment_call_refused}
use Rattle.error.specs.Answer.{told_answer}
use Rattle.book.specs.Calls.{SegmentOutcome, written, segment_call}
use Rattle.book.specs.Commit.{same_words, commit_call}
use Rattle.book.specs.Entries.{elected_words, moved_words}
use Rattle.book.specs.Store.{StoreOutcome}
use Rattle.book.specs.declared.Counts.{Counts}
use Rattle.book.specs.declared.PrintSegment.{PrintSegment}
use Rattle.book.specs.declared.Settings.{Settings}
use Rattle.evaluation.proofs.Rooms.{segment_lists, written_taken}
use Rattle.evaluation.specs.Counts.{elected_count, moved_count}
use Rattle.std.specs.Prelude.{Err, Ok, Result}

module _ (s : Settings) (prints : PrintSegment) (w : List ℕ) (elected moved : List (List ℕ)) where
  abbrev whole : SegmentOutcome
  whole = segment_call s prints w (length elected) (length moved)

  pub refused_untouched : (r : Result Counts Refusal) (e : Refusal) → r ≡ Err e → told_answer r ≡ whole.answer
      → w ≡ whole.words
  unfolding told_answer
  refused_untouched r e is h =
      sym (segment_call_refused s w (length elected) prints (length moved) (refusal_number e, sym h ∙ ap told_answer is)).0

  -- asking was accepted with these counts, and wrote these lists
  module _ (c : Counts) (h : told_answer (Ok c) ≡ whole.answer) (e m : List (List ℕ))
      (e-is : e ≡ written (map elected_words whole.elected) elected)
      (m-is : m ≡ written (map moved_words whole.moved) moved) where
    counted : (c.elected ≡ length (map elected_words whole.elected)) × (c.moves ≡ length (map moved_words whole.moved))
    unfolding told_answer elected_count moved_count
    counted =
        let l = segment_lists s prints w (length elected) (length moved) in (
          ap elected_count h ∙ l.0.0.counted ∙ sym (length-map whole.elected elected_words),
          ap moved_count h ∙ l.1.counted ∙ sym (length-map whole.moved moved_words),
        )

    pub written-counted : (c.elected ≤ length e) × (c.moves ≤ length m)
    unfolding written
    written-counted = (
      rw (e-is, length-append) (omega (arith, counted.0)),
      rw (m-is, length-append) (omega (arith, counted.1)),
    )

    pub commits_whole : (r : Result Counts Refusal) (v : List ℕ)
        → (let o = commit_call (same_words (take c.elected e) (take c.moves m)) s prints w in
        (told_answer r ≡ o.answer) × (v ≡ o.words))
        → (told_answer r ≡ whole.answer) × (v ≡ whole.words)
    unfolding told_answer
    commits_whole r v k =
        let done = ask_commit_words s prints w (length elected) (length moved) (c, sym h) in
        let lists = ap₂ (λ (a b : List (List ℕ)). commit_call (same_words a b) s prints w)
        (ap (take c.elected) e-is ∙ written_taken (map elected_words whole.elected) elected c.elected counted.0)
        (ap (take c.moves) m-is ∙ written_taken (map moved_words whole.moved) moved c.moves counted.1) in (
          k.0 ∙ ap (λ (o : StoreOutcome Counts). o.answer) lists ∙ done.committed_answer,
          k.1 ∙ ap (λ (o : StoreOutcome Counts). o.words) lists ∙ done.words,
        )
