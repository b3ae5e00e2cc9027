-- A stop is taken into a store: what each step asks, and what the last one leaves.
use Prim.Native.Nat.{ℕ, ◌+◌, ◌-◌, ◌≤◌, ◌<◌, ◌^◌}
use native.Mathlib.Omega.{arith}
use native.Mathlib.Numerals.{add-one}
use mathlib.Core.Path.{◌≡◌, refl, sym, ap, ◌∙◌}
use mathlib.Core.List.{List, [], ◌∷◌}
use lib.ListN.{length, get_or, set, drop, length-set}
use lib.Seq.{set-set, set-get_or, sets, length-sets}
use Rattle.pricelevel.specs.declared.Holder.{Holder}
use Rattle.pricelevel.specs.declared.Id.{Id}
use Rattle.pricelevel.specs.declared.Quantity.{Quantity}
use Rattle.stop_terms.specs.declared.StopTerms.{StopTerms}
use Rattle.book.proofs.FreeChain.{VacantFrom, free_count}
use Rattle.book.proofs.Operations.{admitted-valid, admitted_fits, admitted_count}
use Rattle.book.specs.Valid.{StopFits, Admissible}
use Rattle.book.specs.Book.{Slot, vacant, held, Book, pending_count}
use Rattle.book.specs.Lists.{head_or0}
use Rattle.book.specs.Store.{admitted, new_entry}
use Rattle.book.specs.Words.{cell}
use Rattle.book.specs.declared.StopEntry.{StopEntry}
use Rattle.chains.proofs.Chained.{chained_set-header}
use Rattle.chains.proofs.Members.{has_here}
use Rattle.chains.specs.Chained.{Chained, Kept, Ready, upd, within}
use Rattle.book.specs.declared.StoreChain.{StoreChain}
use Rattle.book.specs.declared.StoreChain.TheVariants.{Free}
use Rattle.chains.specs.Records.{Record}
use Rattle.pending_stops.proofs.Entry.{entered_ready, entered-stored}
use Rattle.pending_stops.proofs.Contents.{free_vacant, stored_holds}
use Rattle.book.specs.Chains.{chains_of}
use Rattle.pending_stops.proofs.Unchained.{chains_without, chains_without_vacant, ready_same}
use Rattle.pending_stops.proofs.StoredWords.{record_of, contents_kept, contents_numbers, contents_count, contents_next}
use Rattle.pending_stops.proofs.Vacancy.{ready_record, stored_room}
use Rattle.pending_stops.specs.Stored.{Stored, Contents}

module _ (n : ℕ) (w : List ℕ) (b : Book) (r : List ℕ) (st : Stored n w b r)
    (room : pending_count b.slots < length b.slots) where
  pub free_first : b.free ≡ head_or0 b.free ∷ drop 1 b.free
  unfolding head_or0
  free_first = go b.free (omega (arith, free_count b st.valid))
    where
      go : (l : List ℕ) → 1 ≤ length l → l ≡ head_or0 l ∷ drop 1 l
      go [] h = absurd (omega arith)
      go (i ∷ l) h = refl

  first_vacant : VacantFrom 1 b.slots (head_or0 b.free)
  first_vacant = free_vacant b r st.valid st.fits (head_or0 b.free)
      (rw (← free_first) at (has_here (head_or0 b.free) (drop 1 b.free)))

  pub count_room : get_or w 1 0 + 1 < 2 ^ 64
  count_room = omega (arith, (stored_holds st).contents.word1, st.valid.few_records)

  pub next_word_lem : get_or w 2 0 ≡ b.next
  next_word_lem = (stored_holds st).contents.word2

  -- with any numbers in the place of the count and of the next sequence
  module _ (count next : ℕ) where
    abbrev w1 : List ℕ
    w1 = set (set w 1 count) 2 next

    pub occupying_chained : Chained n w1 (chains_of b)
    occupying_chained =
        let one = chained_set-header n w (chains_of b) (stored_holds st).chained 1 count (omega arith) in
        chained_set-header n (set w 1 count) (chains_of b) one 2 next (omega arith)

    contents1 : Contents n w1 count next b.tick b.slots r
    contents1 =
        let one = contents_count (stored_holds st).contents count (omega (arith, stored_room st)) in
        contents_next one next (rw length-set (omega (arith, stored_room st)))

module _ (n : ℕ) (w : List ℕ) (b : Book) (r : List ℕ) (st : Stored n w b r) (id : Id) (terms : StopTerms)
    (quantity : Quantity) (holder : Holder)
    (a : Admissible (new_entry id terms quantity holder b) b) (count next : ℕ)
    (w2 : List ℕ) (k2 : Kept n (w1 n w b r st a.room count next) w2) (i : ℕ)
    (p2 : (ch : StoreChain → List ℕ) (j : ℕ) (l : List ℕ) → Chained n (w1 n w b r st a.room count next) ch → ch Free ≡ j ∷ l
    → (i ≡ j) × Ready n w2 (upd Free l ch) j) where
  abbrev t : StopEntry
  t = new_entry id terms quantity holder b

  popped : (i ≡ head_or0 b.free) × Ready n w2 (upd Free (drop 1 b.free) (chains_of b)) (head_or0 b.free)
  popped = p2 (chains_of b) (head_or0 b.free) (drop 1 b.free) (occupying_chained n w b r st a.room count next)
      (free_first n w b r st a.room)

  slots-before : b.slots ≡ set (admitted t b).slots (i - 1) vacant
  unfolding admitted
  slots-before =
      let v = first_vacant n w b r st a.room in
      rw (popped.0, set-set)
      (sym (ap (λ (s : Slot). set b.slots (head_or0 b.free - 1) s) (sym v.is_vacant)
      ∙ set-get_or b.slots (head_or0 b.free - 1) vacant))

  ready2 : Ready n w2 (chains_without i (admitted t b)) i
  unfolding admitted
  ready2 =
      ready_same n w2 i (upd Free (drop 1 b.free) (chains_of b)) (chains_without i (admitted t b))
      (chains_without_vacant b (admitted t b) i slots-before)
      (rw popped.0 popped.1)

  pub occupying_record : Record n w2 i
  occupying_record = ready_record n w2 (chains_without i (admitted t b)) i ready2

  -- one stop more, and the next sequence goes up
  contents2 : count ≡ get_or w 1 0 + 1 → next ≡ get_or w 2 0 + 1
      → Contents n w2 (pending_count (admitted t b).slots) (admitted t b).next (admitted t b).tick b.slots r
  unfolding admitted
  contents2 more up =
      contents_numbers (contents_kept (contents1 n w b r st a.room count next) w2 k2)
      (more ∙ ap (λ (k : ℕ). k + 1) (stored_holds st).contents.word1 ∙ add-one (pending_count b.slots)
      ∙ sym (admitted_count t b st.valid a.room))
      (up ∙ ap (λ (k : ℕ). k + 1) (next_word_lem n w b r st a.room))

  entry_slots : (admitted t b).slots ≡ set b.slots (i - 1) (held t)
  unfolding admitted
  entry_slots = rw popped.0

  new_entry_lem : held t ≡ held (record {
    id = id;
    terms = terms;
    quantity = quantity;
    seq = record { 0 = get_or w 2 0 };
    holder = holder;
  })
  unfolding new_entry
  new_entry_lem = rw (next_word_lem n w b r st a.room)

  module _ (w3 : List ℕ) (e3 : w3 ≡ sets w2 (cell i 0) (record_of (held (record {
    id = id;
    terms = terms;
    quantity = quantity;
    seq = record { 0 = get_or w 2 0 };
    holder = holder;
  })) 0 0)) where
    entry_words : w3 ≡ sets w2 (cell i 0) (record_of (held t) 0 0)
    entry_words = rw new_entry_lem e3

    pub occupying_ready : Ready n w3 (chains_without i (admitted t b)) i
    occupying_ready = entered_ready n w2 (admitted t b) i t ready2 w3 entry_words

    pub occupied_length : (w4 : List ℕ) → Kept n w3 w4 → length w4 ≡ length w
    occupied_length w4 k4 = k4.size ∙ rw (e3, length-sets) (k2.size ∙ simp length-set)

    pub occupied-stored : StopFits t → b.next + 1 < 2 ^ 64 → count ≡ get_or w 1 0 + 1 → next ≡ get_or w 2 0 + 1 → (w4 : List ℕ) → Kept n w3 w4
        → ((ch : StoreChain → List ℕ) → Ready n w3 ch i → Chained n w4 (within terms.side w3 i ch))
        → Stored n w4 (admitted t b) r
    unfolding new_entry
    occupied-stored g last more up w4 k4 p4 =
        entered-stored n w2 (admitted t b) r (admitted-valid t b st.valid a)
        (admitted_fits t b st.fits g last) i t b.slots entry_slots (contents2 more up) ready2 w3 entry_words
        w4 k4 p4
