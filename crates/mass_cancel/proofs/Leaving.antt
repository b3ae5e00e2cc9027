-- Stops that leave a store one after the other, by the indices of their records: i of the m that a list begins with are
-- out.
use Prim.Native.Nat.{ℕ, ◌+◌, ◌≤◌, ◌<◌}
use native.Mathlib.Omega.{arith}
use native.Mathlib.Numerals.{add-one}
use mathlib.Core.Path.{◌≡◌, refl, sym, ◌∙◌}
use mathlib.Core.List.{List, [], ◌∷◌}
use lib.ListN.{length, get_or, take, drop}
use lib.Seq.{slice-cons, slice_empty}
use Rattle.stop_terms.specs.declared.StopTerms.{StopTerms}
use Rattle.book.proofs.Collected.{selected_going}
use Rattle.book.proofs.Lookup.{InBook}
use Rattle.book.proofs.VacatedEach.{Going, going_next}
use Rattle.book.specs.Book.{Book, Pending, indices}
use Rattle.book.specs.Chains.{Member}
use Rattle.book.specs.Collect.{selected, vacated_each}
use Rattle.book.specs.Store.{vacated}
use Rattle.book.specs.Words.{entry_at}
use Rattle.book.specs.declared.Selector.{Selector}
use Rattle.by_sequence.specs.Begins.{Begins}
use Rattle.chains.specs.Records.{Record}
use Rattle.pending_stops.proofs.Contents.{stored_holds}
use Rattle.pending_stops.proofs.StoredWords.{contents_entry}
use Rattle.pending_stops.specs.Stored.{Stored}

-- the words are those of a book from which the stops that are left still go out, and leave the book that is aimed at
pub record Leaving (n : ℕ) (o : List ℕ) (m i : ℕ) (w r : List ℕ) (aim : Book) : Type 0 where
  pub book : Book
  pub left : List Pending
  pub stored : Stored n w book r
  pub going : Going book left
  pub at : drop i (take m o) ≡ indices left
  pub aimed : vacated_each left book ≡ aim

pub leaving_start : {n : ℕ} {w : List ℕ} {b : Book} {r o : List ℕ} {m : ℕ} (selector : Selector) → Stored n w b r
    → Begins o m (indices (selected selector b.slots))
    → Leaving n o m 0 w r (vacated_each (selected selector b.slots) b)
leaving_start {b = b} selector st g = record {
  book = b;
  left = selected selector b.slots;
  stored = st;
  going = selected_going selector b;
  at = g.places;
  aimed = refl;
}

-- the first of those that are left
record Next (o : List ℕ) (m i : ℕ) (left : List Pending) : Type 0 where
  first : Pending
  others : List Pending
  is : left ≡ first ∷ others
  index : get_or o i 0 ≡ first.index
  at : drop (i + 1) (take m o) ≡ indices others

module _ {n : ℕ} {o : List ℕ} {m i : ℕ} {w r : List ℕ} {aim : Book} (l : Leaving n o m i w r aim) (h : i < m)
    (room : m ≤ length o) where
  next : Next o m i l.left
  unfolding indices
  next = go l.left l.at
    where
      cut : drop i (take m o) ≡ get_or o i 0 ∷ drop (i + 1) (take m o)
      cut = rw (add-one i) (slice-cons i m o 0 h room)

      go : (left : List Pending) → drop i (take m o) ≡ indices left → Next o m i left
      go [] e =
          let f : get_or o i 0 ∷ drop (i + 1) (take m o) ≡ [] = sym cut ∙ e in
          let z : ◌≡◌ {A = ℕ} 0 1 = cc in
          absurd (omega arith)
      go (p ∷ ps) e =
          let f : get_or o i 0 ∷ drop (i + 1) (take m o) ≡ p.index ∷ indices ps = sym cut ∙ e in
          record { first = p; others = ps; is = refl; index = cc; at = cc }

  there : InBook l.book.slots next.first
  there = (rw next.is at l.going).there.0

  most : next.first.index ≤ n
  most = omega (arith, there.to, l.stored.records)

  pub leaving_record : Record n w (get_or o i 0)
  leaving_record = rw next.index (record {
    least = there.from;
    most = most;
    inside = (stored_holds l.stored).chained.inside;
  })

  pub leaving_member : (t : StopTerms) → t ≡ (entry_at w (get_or o i 0)).terms → Member t.side l.book.slots (get_or o i 0)
  leaving_member t e =
      let q : entry_at w next.first.index ≡ next.first.entry =
      contents_entry (stored_holds l.stored).contents next.first.index next.first.entry there.from
      most there.there in
      rw (e, next.index, q)
      (record { from = there.from; to = there.to; entry = next.first.entry; there = there.there; is_of_side = refl })

  pub leaving_next : (v : List ℕ) → Stored n v (vacated (get_or o i 0) l.book) r → Leaving n o m (i + 1) v r aim
  unfolding vacated_each
  leaving_next v st = record {
    book = vacated next.first.index l.book;
    left = next.others;
    stored = rw next.index at st;
    going = going_next next.first next.others l.book (rw next.is at l.going);
    at = next.at;
    aimed = (rw next.is at l.aimed);
  }

pub leaving_end : {n : ℕ} {o : List ℕ} {m i : ℕ} {w r : List ℕ} {aim : Book} → Leaving n o m i w r aim → i ≡ m
    → Stored n w aim r
unfolding indices vacated_each
leaving_end {n} {o} {m} {i} {w} {r} {aim} l e = go l.left l.at l.aimed
  where
    go : (left : List Pending) → drop i (take m o) ≡ indices left → vacated_each left l.book ≡ aim → Stored n w aim r
    go [] f q = rw q at l.stored
    go (p ∷ ps) f q =
        let none : [] ≡ p.index ∷ indices ps = sym (rw e (slice_empty m o)) ∙ f in
        let z : ◌≡◌ {A = ℕ} 0 1 = cc in
        absurd (omega arith)
