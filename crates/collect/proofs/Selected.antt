-- The records that a selector takes from those by sequence are those of the selected stops, and their entries theirs.
use Prim.Native.Nat.{ℕ}
use mathlib.Core.Path.{◌≡◌, refl, ap}
use mathlib.Core.List.{List, [], ◌∷◌, map}
use lib.ListN.{take}
use Rattle.book.proofs.BySequence.{by_sequence_holds}
use Rattle.book.proofs.Filter.{filter_all, filter_map}
use Rattle.book.proofs.Lists.{all_map}
use Rattle.book.proofs.Lookup.{InBook}
use Rattle.book.specs.Book.{Slot, Pending, entries, indices}
use Rattle.book.specs.BySequence.{by_sequence}
use Rattle.book.specs.Collect.{selects, selected}
use Rattle.book.specs.Entries.{stop_words}
use Rattle.book.specs.Lists.{All}
use Rattle.book.specs.Words.{entry_at, slots_at}
use Rattle.book.specs.declared.Selector.{Selector}
use Rattle.by_sequence.proofs.Sequenced.{entry_there}
use Rattle.by_sequence.specs.Begins.{Begins}
use Rattle.selecting.specs.Selecting.{selected_in, entry_words_in}

module _ (w : List ℕ) (n : ℕ) (selector : Selector) where
  abbrev slots : List Slot
  slots = slots_at w 1 n

  pub selected_in_book : All (InBook slots) (selected selector slots)
  unfolding selected
  selected_in_book =
      filter_all (λ p. selects selector p.entry) (InBook slots) (by_sequence slots) (by_sequence_holds slots).in_book

  -- what is kept of the records by sequence
  pub selected-indices : (o : List ℕ) (k : ℕ) → Begins o k (indices (by_sequence slots))
      → selected_in w selector (take k o) ≡ indices (selected selector slots)
  unfolding selected_in indices selected
  selected-indices o k g =
      rw g.places
      (filter_map (λ p. p.index) (λ p. selects selector p.entry) (λ i. selects selector (entry_at w i)) (by_sequence slots)
      (all_map {P = InBook slots} (λ p h. ap (selects selector) (entry_there w n p h)) (by_sequence slots)
      (by_sequence_holds slots).in_book))

  -- and their entries
  pub selected_words : (l : List Pending) → All (InBook slots) l
      → map (entry_words_in w) (indices l) ≡ map stop_words (entries l)
  unfolding entry_words_in indices entries
  selected_words [] h = refl
  selected_words (p ∷ l) h = rw (entry_there w n p h.0, selected_words l h.1)
