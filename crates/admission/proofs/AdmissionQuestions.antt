-- The questions of a call, from what the code asked: an answer about a value that equals the one in question.
use Rattle.std.specs.Prelude.{is_some}
use Prim.Native.Nat.{ℕ, ◌-◌}
use mathlib.Core.Path.{◌≡◌, refl}
use mathlib.Core.Bool.{true, not}
use mathlib.Core.List.{List}
use borrow.Author.Tests.{eqb-true, eqb-false}
use borrow.Table.Steps.{cases}
use lib.Dec.{ltb, eqb}
use lib.ListN.{length, get_or}
use Rattle.pricelevel.specs.declared.Id.{Id}
use Rattle.book.proofs.WellFormed.{book_of_slots_length}
use Rattle.book.specs.Book.{Book, pending_count}
use Rattle.book.specs.Store.{is_pending, lookup}
use Rattle.book.specs.Words.{book_of, well_formed}
use Rattle.pending_stops.proofs.Found.{missing, found, well_formed-stored, count_word}
use Rattle.store_words.specs.Search.{index_or0}

------------------------------------------------------------------------
-- What a well-formed store answers

pub next_word_lem : (w : List ℕ) → (book_of w).next ≡ get_or w 2 0
unfolding book_of
next_word_lem w = refl

pub pending-asked : (id : Id) (b : Book) (i : ℕ) → i ≡ index_or0 (lookup id b) → eqb i 0 ≡ not (is_pending id b)
unfolding is_pending
pending-asked id b i e = cases (eqb i 0)
    (λ z. rw (z, missing id b i e (eqb-true i 0 z)))
    (λ z. rw (z, (found id b i e (eqb-false i 0 z)).looked))

pub room-asked : (w : List ℕ) → well_formed w ≡ true → (n : ℕ) → n ≡ get_or w 0 0
    → ltb (get_or w 1 0) n ≡ ltb (pending_count (book_of w).slots) (length (book_of w).slots)
room-asked w e n q = rw (← count_word (well_formed-stored w e), book_of_slots_length w, ← q)
