-- A stop is taken out of a store: what each step asks, and what the last one leaves.
use Prim.Native.Nat.{ℕ, suc, ◌-◌, ◌≤◌}
use native.Mathlib.Omega.{arith}
use mathlib.Core.Path.{◌≡◌, ◌∙◌}
use mathlib.Core.List.{List, ◌∷◌}
use lib.ListN.{length, get_or, set, length-set}
use lib.Seq.{sets, length-sets}
use Rattle.pricelevel.specs.declared.Side.{Side}
use Rattle.book.proofs.Lookup.{InBook}
use Rattle.book.proofs.Places.{slot_long, with_links_watermark}
use Rattle.book.proofs.Operations.{vacated-valid, vacated_fits, vacated_count}
use Rattle.book.specs.Book.{vacant, Book, Pending, pending_count}
use Rattle.book.specs.Store.{vacated}
use Rattle.book.specs.Words.{cell, record_word, data_words}
use Rattle.book.specs.Sizes.{header_length, record_length, next_by_watermark}
use Rattle.chains.proofs.Chained.{chained_set-header}
use Rattle.chains.proofs.Data.{sets_word, ready_sets}
use Rattle.chains.specs.Chained.{Chained, Kept, On, Ready, upd, without}
use Rattle.book.specs.declared.StoreChain.{StoreChain}
use Rattle.book.specs.declared.StoreChain.TheVariants.{Free}
use Rattle.chains.specs.Records.{Record}
use Rattle.book.specs.Chains.{Member, chains_of}
use Rattle.pending_stops.proofs.Contents.{stored_holds}
use Rattle.pending_stops.proofs.Unchained.{chains_without, side_on, unlinked_ready, pushed-stored}
use Rattle.pending_stops.proofs.StoredWords.{record_of, record_of_length, contents_kept, contents_count, contents-written}
use Rattle.pending_stops.specs.Stored.{Stored, Contents}

pub ready_record : (n : ℕ) (w : List ℕ) (ch : StoreChain → List ℕ) (i : ℕ) → Ready n w ch i → Record n w i
ready_record n w ch i r = record { least = r.least; most = r.most; inside = r.chained.inside }

pub stored_room : {n : ℕ} {w : List ℕ} {b : Book} {r : List ℕ} → Stored n w b r → header_length ≤ length w
stored_room st = omega (arith, (stored_holds st).chained.inside.room)

module _ (n : ℕ) (w : List ℕ) (b : Book) (r : List ℕ) (st : Stored n w b r) (side : Side) (i : ℕ)
    (m : Member side b.slots i) where
  abbrev stop : Pending
  stop = record { index = i; entry = m.entry }

  pub member_in_book : InBook b.slots stop
  member_in_book = record { from = m.from; to = m.to; there = m.there }

  -- one stop less
  count-before : get_or w 1 0 ≡ suc (pending_count (set b.slots (i - 1) vacant))
  unfolding vacated
  count-before = omega (arith, (stored_holds st).contents.word1, vacated_count stop b member_in_book)

  pub count_some : 1 ≤ get_or w 1 0
  count_some = omega (arith, count-before)

module _ (n : ℕ) (w : List ℕ) (b : Book) (r : List ℕ) (st : Stored n w b r) (side : Side) (i : ℕ)
    (m : Member side b.slots i) (count : ℕ) where
  -- with any number in the place of the count
  abbrev w1 : List ℕ
  w1 = set w 1 count

  pub on1 : On n w1 (chains_of b) side i
  on1 = side_on b st.valid
      st.fits side i m n w1 (chained_set-header n w (chains_of b) (stored_holds st).chained 1 _ (omega arith))

  module _ (w2 : List ℕ) (k2 : Kept n w1 w2)
      (u2 : (ch : StoreChain → List ℕ) → On n w1 ch side i → Ready n w2 (without side i ch) i) where
    ready2 : Ready n w2 (chains_without i b) i
    ready2 = unlinked_ready b st.valid st.fits side i m n w2 (u2 (chains_of b) on1)

    pub record2 : Record n w2 i
    record2 = ready_record n w2 (chains_without i b) i ready2

    module _ (w3 : List ℕ) (e3 : w3 ≡ sets w2 (cell i 0) (record_of vacant 0 0)) where
      few : length (record_of vacant 0 0) ≤ record_length
      few = omega (arith, record_of_length vacant 0 0)

      pub ready3 : Ready n w3 (chains_without i b) i
      ready3 = rw e3 (ready_sets n w2 (chains_without i b) i (record_of vacant 0 0) few ready2)

      pub blank3 : record_word w3 i next_by_watermark ≡ 0
      blank3 =
          rw e3 (sets_word n w2 i (record_of vacant 0 0) few record2 next_by_watermark
          (omega (arith, record_of_length vacant 0 0))
          ∙ with_links_watermark (data_words vacant) (slot_long vacant) 0 0)

      contents3 : count ≡ get_or w 1 0 - 1
          → Contents n w3 (pending_count (set b.slots (i - 1) vacant)) b.next b.tick
          (set b.slots (i - 1) vacant) r
      contents3 e =
          let right : count ≡ pending_count (set b.slots (i - 1) vacant) =
          omega (arith, count-before n w b r st side i m) in
          let before = contents_kept
          (contents_count (stored_holds st).contents count (omega (arith, stored_room st))) w2 k2 in
          rw (e3, ← right) (contents-written before i record2 vacant 0 0)

      pub vacated_length : (w4 : List ℕ) → Kept n w3 w4 → length w4 ≡ length w
      vacated_length w4 k4 = k4.size ∙ rw (e3, length-sets) (k2.size ∙ length-set w 1 count)

      pub vacated-stored : count ≡ get_or w 1 0 - 1 → (w4 : List ℕ) → Kept n w3 w4
          → ((ch : StoreChain → List ℕ) → Ready n w3 ch i → record_word w3 i next_by_watermark ≡ 0
          → Chained n w4 (upd Free (i ∷ ch Free) ch))
          → Stored n w4 (vacated i b) r
      vacated-stored e w4 k4 p4 =
          pushed-stored b i (vacated-valid (stop n w b r st side i m) b st.valid (member_in_book n w b r st side i m))
          (vacated_fits i b st.fits) n w3 r (contents3 e) w4 k4
          (p4 (chains_without i b) ready3 blank3)
