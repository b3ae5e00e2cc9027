-- The stops that a selector takes, by rising sequence, and their cancel: document 02, One.
use Rattle.std.specs.Prelude.{ℕ, Bool, ◌&&◌, List, [], ◌∷◌, leb, eqb, length}
use Rattle.error.specs.Answer.{Answer, refused, accepted}
use Rattle.error.specs.Questions.{Question, question, first_no, decide}
use Rattle.pricelevel.specs.Holder.{same_holder}
use Rattle.pricelevel.specs.Side.{side_number}
use Rattle.book.specs.Book.{Slot, Book, Pending, entries, side_of, stop_of}
use Rattle.book.specs.BySequence.{by_sequence}
use Rattle.book.specs.Calls.{pending_in}
use Rattle.book.specs.Lists.{filter}
use Rattle.book.specs.Store.{stored_book, vacated, cancel}
use Rattle.book.specs.Words.{book_of, well_formed}
use Rattle.book.specs.declared.Selector.{Selector}
use Rattle.book.specs.declared.Selector.TheVariants.{ByHolder, BySide, ByPriceRange}
use Rattle.book.specs.declared.StopEntry.{StopEntry}

------------------------------------------------------------------------
-- Collect

-- the stops of one holder, one side, or a closed range of stop prices
unfoldable pub selects : Selector → StopEntry → Bool
selects (ByHolder h) t = same_holder h t.holder
selects (BySide side) t = eqb (side_number side) (side_number (side_of t))
selects (ByPriceRange lowest highest) t = leb lowest.0 (stop_of t) && leb (stop_of t) highest.0

-- by rising sequence
unfoldable pub selected : Selector → List Slot → List Pending
selected selector ss = filter (λ p. selects selector p.entry) (by_sequence ss)

-- the list at least count entries? 14
unfoldable pub collect_questions : List ℕ → ℕ → List Question
collect_questions w list = question 1 (well_formed w) ∷ question 14 (leb (pending_in w) list) ∷ []

-- how many are listed, the words after the call, and the stops that it lists
pub record CollectOutcome : Type 0 where
  pub answer : Answer ℕ
  pub words : List ℕ
  pub listed : List StopEntry

-- the store is only read
unfoldable pub collect : Selector → List ℕ → ℕ → CollectOutcome
collect selector w list =
    let l : List Pending = selected selector (book_of w).slots in
    decide (first_no (collect_questions w list))
    (λ k. record { answer = refused k; words = w; listed = [] })
    (record { answer = accepted (length l); words = w; listed = entries l })

------------------------------------------------------------------------
-- Mass cancel

-- the book after the stops of a list went out, one after the other
unfoldable pub vacated_each : List Pending → Book → Book
vacated_each [] b = b
vacated_each (p ∷ l) b = vacated_each l (vacated p.index b)

-- the same list, and then a cancel of each in that order
unfoldable pub mass_cancel : Selector → List ℕ → ℕ → CollectOutcome
mass_cancel selector w list =
    let l : List Pending = selected selector (book_of w).slots in
    decide (first_no (collect_questions w list))
    (λ k. record { answer = refused k; words = w; listed = [] })
    (record { answer = accepted (length l); words = stored_book (vacated_each l (book_of w)) w; listed = entries l })

-- the words after a cancel of each stop of a list, one after the other
unfoldable pub cancel_each : List StopEntry → List ℕ → List ℕ
cancel_each [] w = w
cancel_each (t ∷ l) w = cancel_each l (cancel t.id w).words
