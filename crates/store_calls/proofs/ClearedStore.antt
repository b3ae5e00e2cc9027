-- What clear and the totals answer and leave.
use Prim.Native.Nat.{ℕ, ◌≤◌}
use mathlib.Core.Path.{◌≡◌}
use mathlib.Core.Bool.{true, false}
use mathlib.Core.List.{List}
use lib.ListN.{get_or}
use Rattle.error.specs.Answer.{refused, accepted}
use Rattle.book.specs.declared.Totals.{Totals}
use Rattle.book.proofs.WellFormed.{well_formed-valid, book_of_slots_length}
use Rattle.book.specs.Path.{closed}
use Rattle.error.specs.Questions.{first_no, decide}
use Rattle.book.specs.Store.{stored, stored_book, empty_book, clear, pending_quantity, totals_of}
use Rattle.book.specs.Words.{book_of, slots_at, well_formed}
use Rattle.book.specs.declared.PrintPath.{PrintPath}

pub some_records : (w : List ℕ) → well_formed w ≡ true → 1 ≤ get_or w 0 0
some_records w e = rw (← book_of_slots_length w) (well_formed-valid w e).some_records

pub clear_unformed : (w : List ℕ) (path : PrintPath) → well_formed w ≡ false
    → (refused 1 ≡ (clear w path).answer) × ((path ≡ (clear w path).path) × (w ≡ (clear w path).words))
unfolding clear first_no decide
clear_unformed w path e = (rw e, (rw e, rw e))

pub clear_done : (w u : List ℕ) (path after : PrintPath) → well_formed w ≡ true
    → u ≡ stored (get_or w 0 0) (empty_book (get_or w 0 0) (get_or w 3 0)) w
    → after ≡ closed path
    → (accepted tt ≡ (clear w path).answer) × ((after ≡ (clear w path).path) × (u ≡ (clear w path).words))
unfolding clear first_no decide stored_book
clear_done w u path after e h q = (rw e, (rw e q, rw e h))

pub quantity_unformed : (w : List ℕ) → well_formed w ≡ false → refused 1 ≡ pending_quantity w
unfolding pending_quantity first_no decide
quantity_unformed w e = rw e

pub quantity_done : (w : List ℕ) (t : Totals) → well_formed w ≡ true → t ≡ totals_of (slots_at w 1 (get_or w 0 0))
    → accepted t ≡ pending_quantity w
unfolding pending_quantity first_no decide totals_of book_of
quantity_done w t e h = rw (e, h)
