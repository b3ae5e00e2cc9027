-- What cancel and search answer and leave, case by case.
use Prim.Native.Nat.{ℕ}
use mathlib.Core.Path.{◌≡◌, sym, ap, ◌∙◌}
use mathlib.Core.Bool.{true, false}
use mathlib.Core.List.{List}
use lib.ListN.{get_or}
use Rattle.error.specs.Answer.{refused, accepted}
use Rattle.pricelevel.specs.declared.Id.{Id}
use Rattle.error.specs.Questions.{first_no, decide}
use Rattle.book.specs.Store.{StoreOutcome, stored_book, lookup, vacated, cancel_found, cancel, entry_of, find}
use Rattle.book.specs.Words.{entry_at, book_of, well_formed}
use Rattle.book.specs.declared.StopEntry.{StopEntry}
use Rattle.pending_stops.proofs.Found.{beyond, stored_words, Found, found_entry}
use Rattle.pending_stops.specs.Stored.{Stored}
use Rattle.std.specs.Prelude.{None, Some}

------------------------------------------------------------------------
-- Cancel

pub cancel_unformed : (id : Id) (w : List ℕ) → well_formed w ≡ false → cancel id w ≡ record {
  answer = refused 1;
  words = w;
}
unfolding cancel first_no decide
cancel_unformed id w e = rw e

pub cancel-missing : (id : Id) (w : List ℕ) → well_formed w ≡ true → lookup id (book_of w) ≡ None → cancel id w ≡ record {
  answer = refused 12;
  words = w;
}
unfolding cancel first_no decide cancel_found
cancel-missing id w e q = rw (e, q)

pub cancel_found_lem : (id : Id) (w : List ℕ) → well_formed w ≡ true → (i : ℕ) (f : Found id (book_of w) i)
    → cancel id w ≡ record { answer = accepted f.entry; words = stored_book (vacated i (book_of w)) w }
unfolding cancel first_no decide cancel_found
cancel_found_lem id w e i f = rw (e, f.looked)

-- what a cancel answers and leaves in each case
pub cancel_refused_as : (id : Id) (w : List ℕ) (k : ℕ) → cancel id w ≡ record { answer = refused k; words = w }
    → (refused k ≡ (cancel id w).answer) × (w ≡ (cancel id w).words)
cancel_refused_as id w k q =
    (sym (ap (λ (o : StoreOutcome StopEntry). o.answer) q), sym (ap (λ (o : StoreOutcome StopEntry). o.words) q))

pub cancel_done : (id : Id) (w : List ℕ) (e : well_formed w ≡ true) (i : ℕ) (f : Found id (book_of w) i) (t : StopEntry)
    → t ≡ entry_at w i
    → (u : List ℕ) → Stored (get_or w 0 0) u (vacated i (book_of w)) (beyond w)
    → (accepted t ≡ (cancel id w).answer) × (u ≡ (cancel id w).words)
cancel_done id w e i f t q u st = (
  ap accepted (q ∙ found_entry w e id i f)
      ∙ sym (ap (λ (o : StoreOutcome StopEntry). o.answer) (cancel_found_lem id w e i f)),
  stored_words w u (vacated i (book_of w)) st
      ∙ sym (ap (λ (o : StoreOutcome StopEntry). o.words) (cancel_found_lem id w e i f)),
)

------------------------------------------------------------------------
-- Find

pub find_unformed : (id : Id) (w : List ℕ) → well_formed w ≡ false → refused 1 ≡ find id w
unfolding find first_no decide
find_unformed id w e = rw e

pub find-missing : (id : Id) (w : List ℕ) → well_formed w ≡ true → lookup id (book_of w) ≡ None
    → accepted None ≡ find id w
unfolding find first_no decide entry_of
find-missing id w e q = rw (e, q)

pub find_found : (id : Id) (w : List ℕ) (e : well_formed w ≡ true) (i : ℕ) (f : Found id (book_of w) i) (t : StopEntry)
    → t ≡ entry_at w i
    → accepted (Some t) ≡ find id w
unfolding find first_no decide entry_of
find_found id w e i f t q = rw (e, f.looked, q ∙ found_entry w e id i f)
