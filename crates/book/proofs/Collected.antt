-- What collect and mass cancel list and leave: document 02, One.
use Prim.Native.Nat.{ℕ, ◌≤◌}
use mathlib.Core.Path.{◌≡◌, refl, sym, ap, ◌∙◌}
use mathlib.Core.Bool.{Bool, true}
use mathlib.Core.List.{List, [], ◌∷◌}
use native.Mathlib.Omega.{arith}
use borrow.Author.Tests.{le-leb}
use lib.ListN.{length, get_or}
use Rattle.error.specs.Answer.{accepted}
use Rattle.error.specs.Questions.{first_no, decide}
use Rattle.book.proofs.Accepted.{book-stored}
use Rattle.book.proofs.BySequence.{by_sequence_holds, by_sequence_length, by_sequence-other}
use Rattle.book.proofs.Filter.{filter_all, filter_pairwise, filter_length, filter_map}
use Rattle.book.proofs.Lists.{all_of}
use Rattle.book.proofs.Lookup.{InBook}
use Rattle.book.proofs.Members.{Other}
use Rattle.book.proofs.Operations.{vacated-valid, vacated_fits, vacated_length}
use Rattle.book.proofs.VacatedEach.{Going, going_next, vacated_each-valid, vacated_each_fits, vacated_each_length, lookup_is}
use Rattle.book.proofs.WellFormed.{Stored, well_formed-valid, well_formed-layout, book_of_slots_length}
use Rattle.book.specs.Book.{Slot, Book, Pending, entries, pending_count}
use Rattle.book.specs.Calls.{pending_in}
use Rattle.book.specs.BySequence.{by_sequence}
use Rattle.book.specs.Collect.{selects, selected, collect_questions, collect, vacated_each, mass_cancel, cancel_each}
use Rattle.book.specs.Lists.{filter}
use Rattle.book.specs.Store.{StoreOutcome, stored, stored_book, vacated, cancel_found, cancel}
use Rattle.book.specs.Words.{book_of, well_formed}
use Rattle.book.specs.declared.Selector.{Selector}
use Rattle.book.specs.declared.StopEntry.{StopEntry}
use Rattle.std.specs.Prelude.{None, Option, Some}

------------------------------------------------------------------------
-- The collected stops are those by sequence that the selector takes, each of another record

abbrev takes : Selector → Pending → Bool
takes selector p = selects selector p.entry

module _ (selector : Selector) (ss : List Slot) where
  pub selected-entries : entries (selected selector ss) ≡ filter (selects selector) (entries (by_sequence ss))
  unfolding entries selected
  selected-entries =
      sym (filter_map (λ p. p.entry) (takes selector) (selects selector) (by_sequence ss)
      (all_of (λ p. refl) (by_sequence ss)))

  pub selected_few : length (selected selector ss) ≤ pending_count ss
  unfolding selected
  selected_few = omega (arith, filter_length (takes selector) (by_sequence ss), by_sequence_length ss)

pub selected_going : (selector : Selector) (b : Book) → Going b (selected selector b.slots)
unfolding selected
selected_going selector b = record {
  there = filter_all (takes selector) (InBook b.slots) (by_sequence b.slots) (by_sequence_holds b.slots).in_book;
  other = filter_pairwise (takes selector) Other (by_sequence b.slots) (by_sequence-other b.slots);
}

------------------------------------------------------------------------
-- Both calls list the same

pub mass_cancel_lists : (selector : Selector) (w : List ℕ) (list : ℕ)
    → ((mass_cancel selector w list).answer ≡ (collect selector w list).answer)
    × ((mass_cancel selector w list).listed ≡ (collect selector w list).listed)
unfolding mass_cancel collect decide
mass_cancel_lists selector w list = go (first_no (collect_questions w list)) refl
  where
    go : (x : Option ℕ) → first_no (collect_questions w list) ≡ x
        → ((mass_cancel selector w list).answer ≡ (collect selector w list).answer)
        × ((mass_cancel selector w list).listed ≡ (collect selector w list).listed)
    go None e = rw e (refl, refl)
    go (Some k) e = rw e (refl, refl)

------------------------------------------------------------------------
-- Single cancels, one after the other

-- each is accepted, and answers the stop
abbrev pub EachCancelled : List StopEntry → List ℕ → Type 0
EachCancelled [] w = Unit {0}
EachCancelled (t ∷ l) w = ((cancel t.id w).answer ≡ accepted t) × EachCancelled l (cancel t.id w).words

cancel_found_lem : (w : List ℕ) (p : Pending) → well_formed w ≡ true → InBook (book_of w).slots p
    → cancel p.entry.id w ≡ record {
      answer = accepted p.entry;
      words = stored_book (vacated p.index (book_of w)) w;
    }
unfolding cancel cancel_found decide first_no
cancel_found_lem w p e h = rw (e, lookup_is (book_of w) p (well_formed-valid w e) h)

-- a book stored where another of as many records was
stored_over : (b c : Book) (w after : List ℕ) → Stored (get_or w 0 0) b w after → length b.slots ≡ get_or w 0 0
    → stored_book c after ≡ stored_book c w
unfolding stored_book stored
stored_over b c w after st n =
    let e : get_or after 0 0 ≡ get_or w 0 0 =
    sym (book_of_slots_length after) ∙ (ap (λ (d : Book). length d.slots) st.reads ∙ n) in
    rw (e, st.beyond)

each_cancelled : (l : List Pending) (w : List ℕ) → well_formed w ≡ true → Going (book_of w) l
    → (stored_book (vacated_each l (book_of w)) w ≡ cancel_each (entries l) w) × EachCancelled (entries l) w
unfolding entries cancel_each vacated_each stored_book stored
each_cancelled [] w e g = (sym (well_formed-layout w e), tt)
each_cancelled (p ∷ l) w e g =
    let b = book_of w in
    let c = vacated p.index b in
    let st = book-stored c w e (λ v. vacated-valid p b v g.there.0) (λ f. vacated_fits p.index b f)
    (vacated_length p.index b) in
    let one = cancel_found_lem w p e g.there.0 in
    let words : (cancel p.entry.id w).words ≡ stored_book c w = ap (λ (o : StoreOutcome StopEntry). o.words) one in
    let n : length c.slots ≡ get_or w 0 0 = vacated_length p.index b ∙ book_of_slots_length w in
    let rest = each_cancelled l (stored_book c w) st.formed (rw st.reads (going_next p l b g)) in (
      sym (stored_over c (vacated_each l c) w (stored_book c w) st n) ∙ (rw st.reads at rest.0)
          ∙ ap (cancel_each (entries l)) (sym words),
      (ap (λ (o : StoreOutcome StopEntry). o.answer) one, rw words rest.1),
    )

------------------------------------------------------------------------
-- Of a well-formed store, with a list that is long enough

module _ (selector : Selector) (w : List ℕ) (list : ℕ) (formed : well_formed w ≡ true) (room : pending_in w ≤ list) where
  asked : first_no (collect_questions w list) ≡ None
  unfolding first_no collect_questions
  asked = rw (formed, le-leb (pending_in w) list room)

  -- the list of collect is that of the stops by sequence that the selector takes
  pub collect_listed : (collect selector w list).listed ≡ filter (selects selector) (entries (by_sequence (book_of w).slots))
  unfolding collect decide
  collect_listed = rw asked (selected-entries selector (book_of w).slots)

  -- the store after mass cancel is that of the single cancels of the listed stops in their order; each of those is
  -- accepted, and the store is well formed
  pub mass_cancel_each : ((mass_cancel selector w list).words ≡ cancel_each (mass_cancel selector w list).listed w)
      × EachCancelled (mass_cancel selector w list).listed w
      × (well_formed (mass_cancel selector w list).words ≡ true)
  unfolding mass_cancel decide
  mass_cancel_each =
      let b = book_of w in
      let l = selected selector b.slots in
      let going = selected_going selector b in
      let each = each_cancelled l w formed going in
      let st = book-stored (vacated_each l b) w formed (λ v. vacated_each-valid l b v going) (vacated_each_fits l b)
      (vacated_each_length l b) in
      rw asked (each.0, each.1, st.formed)
