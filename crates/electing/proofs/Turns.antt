-- The elected leave one after the other: the state of the loop, and what a turn makes of it. The words are those of a
-- book that ends as the first does.
use Prim.Native.Nat.{ℕ, suc, ◌+◌, ◌≤◌, ◌<◌}
use native.Mathlib.Omega.{arith}
use mathlib.Core.Path.{◌≡◌, refl, sym, ap, ◌∙◌}
use mathlib.Core.Logic.{◌≢◌}
use mathlib.Core.List.{List}
use lib.Dec.{T}
use lib.ListN.{length}
use lib.Seq.{sets, length-sets}
use Rattle.pricelevel.specs.declared.Price.{Price}
use Rattle.pricelevel.specs.declared.Side.{Side}
use Rattle.book.specs.Steps.{elected_in, taken_on}
use Rattle.book.specs.Book.{Book, vacant}
use Rattle.book.specs.Store.{vacated}
use Rattle.book.specs.Words.{cell, record_word}
use Rattle.book.specs.Sizes.{most_records, next_by_watermark}
use Rattle.book.specs.declared.Chain.TheVariants.{ByStop}
use Rattle.chains.specs.Chained.{Chained, Kept, Ready}
use Rattle.book.specs.Chains.{head_of, link_of}
use Rattle.book.specs.declared.StoreChain.{StoreChain}
use Rattle.book.specs.declared.StoreChain.TheVariants.{Ordered}
use Rattle.chains.specs.Indices.{has}
use Rattle.chains.specs.Records.{Record}
use Rattle.pending_stops.proofs.StoredWords.{record_of}
use Rattle.electing.proofs.Elected.{First}
use Rattle.electing.proofs.Heads.{none_first, some_first}
use Rattle.electing.proofs.Departure.{dropped_without, TakenOut, Pushed, dropped_linked, in_stops, record1, ready2, blank2, left_dropped}
use Rattle.electing.proofs.Remainder.{taken_none}
use Rattle.electing.proofs.Departures.{elected_few, count-step, taken_step}
use Rattle.electing.specs.Elected.{first_elected, dropped_chains, Dropped}

-- from book b, when m have left
pub record Turn (side : Side) (price : Price) (n count : ℕ) (b : Book) (r w : List ℕ) (m : ℕ) : Type 0 where
  pub book : Book
  pub dropped : Dropped side price n w count book r
  pub same : taken_on side price book ≡ taken_on side price b
  pub taken : m + length (elected_in side price book) ≡ length (elected_in side price b)
  pub few : length (elected_in side price b) ≤ n

-- from a book that there is, and from every book that the words w0 have
pub record Turns (side : Side) (price : Price) (n : ℕ) (w0 w : List ℕ) (m : ℕ) : Type 0 where
  pub book : Book
  pub beyond : List ℕ
  pub count : ℕ
  pub start : Dropped side price n w0 count book beyond
  pub size : length w ≡ length w0
  pub turns : (b : Book) (r : List ℕ) (count : ℕ) → Dropped side price n w0 count b r → Turn side price n count b r w m

pub turns_first : {side : Side} {price : Price} {n : ℕ} {w : List ℕ} (b : Book) (r : List ℕ) (count : ℕ)
    → Dropped side price n w count b r
    → Turns side price n w w 0
turns_first {side} {price} {n} {w} b r count d = record {
  book = b;
  beyond = r;
  count = count;
  start = d;
  size = refl;
  turns = first;
}
  where
    first : (b : Book) (r : List ℕ) (count : ℕ) → Dropped side price n w count b r → Turn side price n count b r w 0
    first b r count d = record {
      book = b;
      dropped = d;
      same = refl;
      taken = omega arith;
      few = elected_few side price n w (link_of (ByStop side)) (head_of (ByStop side)) b (dropped_linked d);
    }

module _ {side : Side} {price : Price} {n : ℕ} {w0 w : List ℕ} {m : ℕ} (v : Turns side price n w0 w m) where
  abbrev now : Turn side price n v.count v.book v.beyond w m
  now = v.turns v.book v.beyond v.count v.start

  pub turns_chained : (ch : StoreChain → List ℕ) × Chained n w ch
  turns_chained = (dropped_chains side price now.book, now.dropped.chained)

  pub turns_end : first_elected side price w ≡ 0 → (b : Book) (r : List ℕ) (count : ℕ)
      → Dropped side price n w0 count b r
      → (m ≡ length (elected_in side price b)) × Dropped side price n w count (taken_on side price b) r
  turns_end z b r count d =
      let t = v.turns b r count d in
      let e = t.dropped in
      let none = none_first side price t.book e.fits e.contents (dropped_linked e) z in
      let same : t.book ≡ taken_on side price b = sym (taken_none side price t.book none) ∙ t.same in
      (omega (arith, t.taken, ap length none), rw same at e)

  -- one more is elected, and leaves
  module _ {i : ℕ} (is : i ≡ first_elected side price w) (ne : i ≢ 0) where
    first : {count : ℕ} {b : Book} {r : List ℕ} (t : Turn side price n count b r w m) → First side price t.book i
    first t = let e = t.dropped in some_first side price t.book e.fits e.contents (dropped_linked e) i is ne

    fewer : {count : ℕ} {b : Book} {r : List ℕ} (t : Turn side price n count b r w m)
        → length (elected_in side price t.book) ≡ suc (length (elected_in side price (vacated i t.book)))
    fewer t = count-step t.dropped.valid t.dropped.fits (first t)

    pub turns_below : (m < n) × (n ≤ most_records)
    turns_below = (omega (arith, now.taken, now.few, fewer now), now.dropped.chained.inside.few)

    pub turns_out : (ch : StoreChain → List ℕ) × Chained n w ch × T (has i (ch (Ordered (ByStop side))))
    turns_out = (dropped_chains side price now.book, now.dropped.chained, in_stops now.dropped (first now))

    module _ {w1 : List ℕ} (k1 : Kept n w w1) (u1 : TakenOut n w w1 (Ordered (ByStop side)) i) where
      pub turns_record : Record n w1 i
      turns_record = record1 now.dropped (first now) w1 k1 u1

      module _ {w2 : List ℕ} (e2 : w2 ≡ sets w1 (cell i 0) (record_of vacant 0 0)) where
        pub turns_ready : (ch : StoreChain → List ℕ) × Ready n w2 ch i × (record_word w2 i next_by_watermark ≡ 0)
        turns_ready = (
          dropped_without side price i now.book,
          ready2 now.dropped (first now) w1 k1 u1 w2 e2,
          blank2 now.dropped (first now) w1 k1 u1 w2 e2,
        )

        module _ {w3 : List ℕ} (k3 : Kept n w2 w3) (p3 : Pushed n w2 w3 i) where
          again : {count : ℕ} {b : Book} {r : List ℕ} → Turn side price n count b r w m
              → Turn side price n count b r w3 (m + 1)
          again t = record {
            book = vacated i t.book;
            dropped = left_dropped t.dropped (first t) w1 k1 u1 w2 e2 w3 k3 p3;
            same = taken_step t.dropped.valid t.dropped.fits (first t) ∙ t.same;
            taken = omega (arith, t.taken, fewer t);
            few = t.few;
          }

          pub turns_again : Turns side price n w0 w3 (m + 1)
          turns_again = record {
            book = v.book;
            beyond = v.beyond;
            count = v.count;
            start = v.start;
            size = k3.size ∙ rw (e2, length-sets) k1.size ∙ v.size;
            turns = λ b r count d. again (v.turns b r count d);
          }
