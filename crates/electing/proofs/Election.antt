-- From the words of a book to those of the book without the elected: nothing changes where none is, else what holds
-- before and after they leave.
use Prim.Native.Nat.{ℕ, ◌+◌, ◌-◌, ◌≤◌}
use native.Mathlib.Omega.{arith}
use mathlib.Core.Path.{◌≡◌, refl, sym, ap, subst}
use mathlib.Core.List.{List}
use lib.ListN.{length, get_or, set}
use Rattle.pricelevel.specs.declared.Price.{Price}
use Rattle.pricelevel.specs.declared.Side.{Side}
use Rattle.book.specs.Steps.{elected_in, taken_on}
use Rattle.book.specs.Book.{Book, pending_count}
use Rattle.book.specs.Words.{chain_indices}
use Rattle.book.specs.Sizes.{header_length}
use Rattle.book.specs.declared.Chain.TheVariants.{ByStop, ByWatermark}
use Rattle.chains.proofs.Chained.{chained_set-header}
use Rattle.chains.specs.Chained.{Chained, Kept, upd}
use Rattle.book.specs.declared.StoreChain.{StoreChain}
use Rattle.book.specs.declared.StoreChain.TheVariants.{Ordered}
use Rattle.pending_stops.proofs.Contents.{stored_holds, holds-stored}
use Rattle.book.specs.Chains.{chains_of}
use Rattle.pending_stops.proofs.StoredWords.{contents_kept, contents_numbers, contents_count, contents_entry}
use Rattle.pending_stops.specs.Stored.{Stored}
use Rattle.chains.proofs.Names.{upd_same}
use Rattle.electing.proofs.Heads.{none_first}
use Rattle.electing.proofs.Remainder.{taken_none, taken_again}
use Rattle.electing.proofs.Departures.{taken_count}
use Rattle.electing.proofs.Unelected.{Entries, unelected_taken}
use Rattle.electing.specs.Elected.{first_elected, unelected, Dropped}

module _ (side : Side) (price : Price) {n : ℕ} {w : List ℕ} {b : Book} {r : List ℕ} (st : Stored n w b r) where
  -- none is elected
  pub election_none : first_elected side price w ≡ 0
      → (0 ≡ length (elected_in side price b)) × Stored n w (taken_on side price b) r
  election_none z =
      let h = stored_holds st in
      let none = none_first side price b st.fits h.contents (h.chained.linked (Ordered (ByStop side))) z in
      (sym (ap length none), rw (taken_none side price b none) st)

  module _ {w1 : List ℕ} (k1 : Kept n w w1)
      (u1 : (ch : StoreChain → List ℕ) → Chained n w ch
      → Chained n w1 (upd (Ordered (ByWatermark side)) (unelected price w (ch (Ordered (ByWatermark side)))) ch)) where
    -- the elected have left the watermark chain
    pub election_dropped : Dropped side price n w1 (pending_count b.slots) b r
    election_dropped =
        let h = stored_holds st in
        let entries : Entries side w b.slots =
        λ j m. contents_entry h.contents j m.entry m.from (rw st.records at m.to) m.there in
        record {
          valid = st.valid;
          fits = st.fits;
          contents = contents_kept h.contents w1 k1;
          chained = rw (unelected_taken side price w b st.valid st.fits entries) at
              (u1 (chains_of b) h.chained);
        }

    -- all m have left, and so many fewer are pending
    module _ {w2 : List ℕ} {m : ℕ}
        (u2 : (b : Book) (r : List ℕ) (count : ℕ) → Dropped side price n w1 count b r
        → (m ≡ length (elected_in side price b)) × Dropped side price n w2 count (taken_on side price b) r) where
      abbrev after : Book
      after = taken_on side price b

      number : m ≡ length (elected_in side price b)
      number = (u2 b r (pending_count b.slots) election_dropped).0

      left : Dropped side price n w2 (pending_count b.slots) after r
      left = (u2 b r (pending_count b.slots) election_dropped).1

      count : get_or w2 1 0 ≡ m + pending_count after.slots
      count = omega (arith, number, left.contents.word1, taken_count side price b st.valid st.fits)

      pub election_room : header_length ≤ length w2
      election_room = omega (arith, left.chained.inside.room)

      pub election_fewer : m ≤ get_or w2 1 0
      election_fewer = omega (arith, count)

      after_chained : Chained n w2 (chains_of after)
      after_chained =
          subst (λ (ch : StoreChain → List ℕ). Chained n w2 ch)
          (upd_same (Ordered (ByWatermark side)) _ (chains_of after)
          (ap (chain_indices (ByWatermark side)) (taken_again side price b))) left.chained

      pub election-stored : (m ≡ length (elected_in side price b)) × Stored n (set w2 1 (get_or w2 1 0 - m)) after r
      election-stored = (
        number,
        holds-stored n _ after r left.valid left.fits (record {
          contents = contents_numbers (contents_count left.contents _ (omega (arith, election_room)))
              (omega (arith, count)) refl;
          chained = chained_set-header n w2 (chains_of after) after_chained 1 _ (omega arith);
        }),
      )
