-- What the ladder answers and lists, refused and accepted.
use Prim.Native.Nat.{ℕ, ◌≤◌}
use mathlib.Core.Path.{◌≡◌, refl, sym, ap, ◌∙◌}
use mathlib.Core.Bool.{true}
use mathlib.Core.List.{List, [], ◌∷◌, map}
use borrow.Author.Tests.{leb-true}
use lib.Dec.{leb}
use lib.ListN.{length, take, length-map}
use Rattle.error.specs.Answer.{refused, accepted}
use Rattle.error.specs.Questions.{first_no, decide}
use Rattle.pricelevel.proofs.Bools.{and_parts}
use Rattle.pricelevel.specs.declared.Price.{Price}
use Rattle.book.proofs.BySequence.{by_sequence_holds}
use Rattle.book.proofs.Lookup.{InBook}
use Rattle.book.proofs.Questions.{first_no_none}
use Rattle.book.specs.Book.{Pending, entries, indices, pending_count}
use Rattle.book.specs.BySequence.{by_sequence}
use Rattle.book.specs.Calls.{written, pending_in}
use Rattle.book.specs.Ladder.{ladder_entry, ladder_words, ladder_questions, ladder}
use Rattle.book.specs.Lists.{All}
use Rattle.book.specs.Sizes.{most_trial_prices}
use Rattle.book.specs.Words.{book_of, slots_at, well_formed}
use Rattle.by_sequence.proofs.Sequenced.{entry_there}
use Rattle.by_sequence.specs.Begins.{Begins}
use Rattle.ladder.specs.Records.{ladder_words_in}
use Rattle.std.specs.Prelude.{None, Some}

module _ (prices : List Price) (w : List ℕ) (list : ℕ) (h : None ≡ first_no (ladder_questions prices w list)) where
  pub ladder-formed : well_formed w ≡ true
  unfolding ladder_questions
  ladder-formed = (first_no_none (ladder_questions prices w list) (sym h)).0

  pub ladder_few : length prices ≤ most_trial_prices
  unfolding ladder_questions
  ladder_few = leb-true _ _ (and_parts (leb 1 (length prices)) _ (first_no_none (ladder_questions prices w list) (sym h)).1.0).1

  pub ladder_room : pending_count (book_of w).slots ≤ list
  unfolding ladder_questions pending_in
  ladder_room = leb-true _ _ (first_no_none (ladder_questions prices w list) (sym h)).1.1.0

-- the entries of pending records are those of their stops
entries_there : (prices : List Price) (w : List ℕ) (n : ℕ) (l : List Pending) → All (InBook (slots_at w 1 n)) l
    → map (ladder_words_in prices w) (indices l) ≡ map ladder_words (map (λ t. ladder_entry prices t.terms) (entries l))
unfolding ladder_words_in indices entries
entries_there prices w n [] h = refl
entries_there prices w n (p ∷ l) h = rw (entry_there w n p h.0, entries_there prices w n l h.1)

module _ (prices : List Price) (w : List ℕ) (list : List (List ℕ)) where
  pub ladder_refused : (k : ℕ) → Some k ≡ first_no (ladder_questions prices w (length list))
      → (refused k ≡ (ladder prices w (length list)).answer)
      × (list ≡ written (map ladder_words (ladder prices w (length list)).listed) list)
  unfolding ladder decide written
  ladder_refused k h = rw (← h) (refl, refl)

  pub ladder_done : (m : ℕ) (o : List ℕ) (after : List (List ℕ)) → None ≡ first_no (ladder_questions prices w (length list))
      → Begins o m (indices (by_sequence (book_of w).slots))
      → after ≡ written (map (ladder_words_in prices w) (take m o)) list
      → (accepted m ≡ (ladder prices w (length list)).answer)
      × (after ≡ written (map ladder_words (ladder prices w (length list)).listed) list)
  unfolding ladder decide indices entries book_of
  ladder_done m o after h g e =
      let l = by_sequence (book_of w).slots in
      let count : m ≡ length (entries l) = sym g.count ∙ length-map l (λ p. p.index) ∙ sym (length-map l (λ p. p.entry)) in
      let words = entries_there prices w _ l (by_sequence_holds (book_of w).slots).in_book in
      rw (← h) (ap accepted count, rw (g.places, words) at e)
