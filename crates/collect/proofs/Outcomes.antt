-- What collect and mass cancel answer and list, refused and accepted.
use Prim.Native.Nat.{ℕ, ◌≤◌}
use mathlib.Core.Path.{◌≡◌, refl, sym, ap, ◌∙◌}
use mathlib.Core.Bool.{true}
use mathlib.Core.List.{List, [], map}
use borrow.Author.Tests.{leb-true}
use lib.ListN.{length, length-map}
use Rattle.error.specs.Answer.{refused, accepted}
use Rattle.error.specs.Questions.{first_no, decide}
use Rattle.book.proofs.Questions.{first_no_none}
use Rattle.book.specs.Book.{entries, indices, pending_count}
use Rattle.book.specs.Calls.{written, pending_in}
use Rattle.book.specs.Entries.{stop_words}
use Rattle.book.specs.Collect.{selected, collect_questions, CollectOutcome}
use Rattle.book.specs.Words.{book_of, well_formed}
use Rattle.book.specs.declared.Selector.{Selector}
use Rattle.by_sequence.specs.Begins.{Begins}
use Rattle.std.specs.Prelude.{None, Some}

module _ (w : List ℕ) (list : ℕ) (h : None ≡ first_no (collect_questions w list)) where
  pub collect-formed : well_formed w ≡ true
  unfolding collect_questions
  collect-formed = (first_no_none (collect_questions w list) (sym h)).0

  pub collect_room : pending_count (book_of w).slots ≤ list
  unfolding collect_questions pending_in
  collect_room = leb-true _ _ (first_no_none (collect_questions w list) (sym h)).1.0

-- the outcome of a call that goes through these questions, lists the selected stops and leaves these words
abbrev pub outcome : Selector → List ℕ → ℕ → List ℕ → CollectOutcome
outcome selector w list words =
    decide (first_no (collect_questions w list))
    (λ k. record { answer = refused k; words = w; listed = [] })
    (record {
      answer = accepted (length (selected selector (book_of w).slots));
      words = words;
      listed = entries (selected selector (book_of w).slots);
    })

module _ (selector : Selector) (w words : List ℕ) (list : List (List ℕ)) where
  abbrev called : CollectOutcome
  called = outcome selector w (length list) words

  pub called_refused : (k : ℕ) → Some k ≡ first_no (collect_questions w (length list))
      → (refused k ≡ called.answer) × (w ≡ called.words) × (list ≡ written (map stop_words called.listed) list)
  unfolding decide written
  called_refused k h = rw (← h) (refl, refl, refl)

  pub called_done : (m : ℕ) (o : List ℕ) (after : List (List ℕ)) → None ≡ first_no (collect_questions w (length list))
      → Begins o m (indices (selected selector (book_of w).slots))
      → after ≡ written (map stop_words (entries (selected selector (book_of w).slots))) list
      → (accepted m ≡ called.answer) × (words ≡ called.words)
      × (after ≡ written (map stop_words called.listed) list)
  unfolding decide indices
  called_done m o after h g e =
      let l = selected selector (book_of w).slots in
      let count : m ≡ length l = sym g.count ∙ length-map l (λ p. p.index) in
      rw (← h) (ap accepted count, refl, e)
