-- Well-formed words are the layout of a valid book whose numbers are words, with any words behind it, and so is each
-- such layout.
use Rattle.book.proofs.Slots.{slots_at_all, kind_number_most, slot_at_fits, side_number_most}
use Prim.Native.Nat.{ℕ, suc, ◌+◌, ◌-◌, ◌*◌, ◌≤◌, ◌<◌, ◌^◌}
use mathlib.Core.Path.{◌≡◌, sym}
use mathlib.Core.Bool.{true}
use mathlib.Core.List.{List, [], ◌∷◌, ◌++◌}
use native.Mathlib.Omega.{arith}
use borrow.Author.Tests.{ltb-true, lt-ltb, leb-true, le-leb}
use lib.Dec.{leb, ltb}
use lib.ListN.{length, get_or, take, drop, length-append, length-drop, take-append-drop}
use lib.Seq.{get_or-take, take_at, drop_at}
use Rattle.pricelevel.proofs.Bools.{and_parts}
use Rattle.pricelevel.specs.declared.Side.TheVariants.{Buy, Sell}
use Rattle.book.proofs.ChainIndices.{head_or0_all, next_in_all, chain_indices_range}
use Rattle.book.proofs.FreeChain.{VacantFrom, pending_count_vacant, free_all_vacant}
use Rattle.book.proofs.Lists.{all_map, all_append, all_get_d, every_all, all-every, same_list_equal, same_list_refl}
use Rattle.book.proofs.Places.{layout_length, layout_count}
use Rattle.book.proofs.ReadBack.{slots_at_length, book_of-layout}
use Rattle.book.proofs.Validity.{valid_parts, valid_of}
use Rattle.book.specs.Valid.{Valid, SlotFits, Fits}
use Rattle.book.specs.Book.{Slot, vacant, held, Book, Chain, ByStop, ByWatermark, side_of}
use Rattle.book.specs.Lists.{head_or0, All}
use Rattle.book.specs.Store.{stored, stored_book}
use Rattle.book.specs.Words.{next_in, chain_indices, header, record_words, records_words, layout, cell, record_word, book_of, valid, are_words, well_formed, data_words, after_by_stop, after_by_watermark, with_links}
use Rattle.book.specs.Sizes.{header_length, record_length, store_length}

------------------------------------------------------------------------
-- Words

abbrev pub IsWord : ℕ → Type 0
IsWord x = x < 2 ^ 64

are_words_all : (l : List ℕ) → are_words l ≡ true → All IsWord l
unfolding are_words
are_words_all l e = all_map {Q = IsWord} (λ x h. ltb-true x (2 ^ 64) h) l (every_all (λ x. ltb x (2 ^ 64)) l e)

all-are_words : (l : List ℕ) → All IsWord l → are_words l ≡ true
unfolding are_words
all-are_words l h = all-every (λ x. ltb x (2 ^ 64)) l
    (all_map {P = IsWord} {Q = λ x. ltb x (2 ^ 64) ≡ true} (λ x p. lt-ltb x (2 ^ 64) p) l h)

------------------------------------------------------------------------
-- The parts of the test

pub record WellFormed (w : List ℕ) : Type 0 where
  pub room : store_length (get_or w 0 0) ≤ length w
  pub all_are_words : All IsWord (take (store_length (get_or w 0 0)) w)
  pub book_valid : Valid (book_of w)
  pub is_laid_out : take (store_length (get_or w 0 0)) w ≡ layout (book_of w)

pub well_formed_parts : (w : List ℕ) → well_formed w ≡ true → WellFormed w
unfolding well_formed
well_formed_parts w e =
    let front = take (store_length (get_or w 0 0)) w in
    let room = and_parts (leb (store_length (get_or w 0 0)) (length w)) _ e in
    let words = and_parts (are_words front) _ room.1 in
    let book = and_parts (valid (book_of w)) _ words.1 in
    record {
      room = leb-true _ _ room.0;
      all_are_words = are_words_all front words.0;
      book_valid = valid_parts (book_of w) book.0;
      is_laid_out = same_list_equal front (layout (book_of w)) book.1;
    }

pub well_formed_of : (w : List ℕ) → WellFormed w → well_formed w ≡ true
unfolding well_formed
well_formed_of w h =
    rw (
      le-leb (store_length (get_or w 0 0)) (length w) h.room,
      all-are_words (take (store_length (get_or w 0 0)) w) h.all_are_words,
      valid_of (book_of w) h.book_valid,
      h.is_laid_out,
      same_list_refl (layout (book_of w)),
    )

------------------------------------------------------------------------
-- Well-formed words

module _ (w : List ℕ) (e : well_formed w ≡ true) where
  pub well_formed-valid : Valid (book_of w)
  well_formed-valid = (well_formed_parts w e).book_valid

  pub well_formed-layout : w ≡ layout (book_of w) ++ drop (store_length (get_or w 0 0)) w
  well_formed-layout = rw (← (well_formed_parts w e).is_laid_out) (sym (take-append-drop (store_length (get_or w 0 0)) w))

  well_formed_word : (p : ℕ) → p < store_length (get_or w 0 0) → IsWord (get_or w p 0)
  well_formed_word p h =
      rw get_or-take at (all_get_d IsWord (take (store_length (get_or w 0 0)) w) p 0 (omega arith)
      (well_formed_parts w e).all_are_words)

  record_word_fits : (i k : ℕ) → 1 ≤ i → i ≤ get_or w 0 0 → k < record_length → IsWord (record_word w i k)
  unfolding record_word cell
  record_word_fits i k low high h = well_formed_word (header_length + record_length * (i - 1) + k) (omega arith)

  pub well_formed_fits : Fits (book_of w)
  unfolding book_of
  well_formed_fits = record {
    next = well_formed_word 2 (omega arith);
    tick = well_formed_word 3 (omega arith);
    slots = slots_at_all SlotFits w 1 (get_or w 0 0)
        (λ j low high. slot_at_fits w j (λ k h. record_word_fits j k low (omega arith) h));
  }

pub book_of_slots_length : (w : List ℕ) → length (book_of w).slots ≡ get_or w 0 0
unfolding book_of
book_of_slots_length w = slots_at_length w 1 (get_or w 0 0)

------------------------------------------------------------------------
-- The layout of a valid book

module _ (b : Book) (v : Valid b) (f : Fits b) where
  free_words_lem : All IsWord b.free
  free_words_lem = all_map {P = VacantFrom 1 b.slots} {Q = IsWord} (λ i h. omega arith) b.free (free_all_vacant b v)

  chain_words : (c : Chain) → All IsWord (chain_indices c b)
  chain_words c =
      all_map {P = λ i. i ≤ length b.slots} {Q = IsWord} (λ i h. omega arith) (chain_indices c b)
      (chain_indices_range c b)

  head_word : (c : Chain) → IsWord (head_or0 (chain_indices c b))
  head_word c = head_or0_all IsWord (chain_indices c b) (omega arith) (chain_words c)

  link_word : (c : Chain) (i : ℕ) → IsWord (next_in (chain_indices c b) i)
  link_word c i = next_in_all IsWord (chain_indices c b) i (omega arith) (chain_words c)

  header_words : All IsWord (header b)
  unfolding header
  header_words =
      omega (
        arith,
        pending_count_vacant 1 b.slots,
        head_word (ByStop Sell),
        head_word (ByWatermark Sell),
        head_word (ByStop Buy),
        head_word (ByWatermark Buy),
        head_or0_all IsWord b.free (omega arith) free_words_lem,
      )

  record_words_words : (i : ℕ) (s : Slot) → SlotFits s → All IsWord (record_words b i s)
  unfolding record_words data_words after_by_stop after_by_watermark with_links
  record_words_words i vacant h = omega (arith, next_in_all IsWord b.free i (omega arith) free_words_lem)
  record_words_words i (held t) h =
      omega (
        arith,
        kind_number_most t.id.kind,
        side_number_most (side_of t),
        link_word (ByStop (side_of t)) i,
        link_word (ByWatermark (side_of t)) i,
      )

  records_words_words : (i : ℕ) (ss : List Slot) → All SlotFits ss → All IsWord (records_words b i ss)
  unfolding records_words
  records_words_words i [] h = tt
  records_words_words i (s ∷ ss) h =
      all_append IsWord (record_words b i s) (records_words b (suc i) ss) (record_words_words i s h.0)
      (records_words_words (suc i) ss h.1)

  layout_words : All IsWord (layout b)
  unfolding layout
  layout_words = all_append IsWord (header b)
      (records_words b 1 b.slots) header_words (records_words_words 1 b.slots f.slots)

-- whatever stands behind it
pub layout-well_formed : (b : Book) (r : List ℕ) → Valid b → Fits b → well_formed (layout b ++ r) ≡ true
layout-well_formed b r v f =
    let front : take (store_length (length b.slots)) (layout b ++ r) ≡ layout b =
    take_at (layout b) r _ (layout_length b) in
    well_formed_of (layout b ++ r) (record {
      room = rw (layout_count b r, length-append) (omega (arith, layout_length b));
      all_are_words = rw (layout_count b r, front) (layout_words b v f);
      book_valid = rw (book_of-layout b r v) v;
      is_laid_out = rw (layout_count b r, book_of-layout b r v) front;
    })

------------------------------------------------------------------------
-- A book stored in the place of n records

-- what w is after it: the book in its first words, the same length, the same words beyond
pub record Stored (n : ℕ) (b : Book) (w after : List ℕ) : Type 0 where
  pub formed : well_formed after ≡ true
  pub reads : book_of after ≡ b
  pub size : length after ≡ length w
  pub beyond : drop (store_length n) after ≡ drop (store_length n) w

pub stored-well_formed : (n : ℕ) (b : Book) (w : List ℕ) → store_length n ≤ length w → Valid b → Fits b
    → length b.slots ≡ n
    → Stored n b w (stored n b w)
unfolding stored
stored-well_formed n b w h v f e =
    let l : length (layout b) ≡ store_length n = rw e at (layout_length b) in
    record {
      formed = layout-well_formed b (drop (store_length n) w) v f;
      reads = book_of-layout b (drop (store_length n) w) v;
      size = rw (length-append, l, length-drop) (omega arith);
      beyond = drop_at (layout b) (drop (store_length n) w) (store_length n) l;
    }

pub stored_book-well_formed : (b : Book) (w : List ℕ) → well_formed w ≡ true → Valid b → Fits b
    → length b.slots ≡ get_or w 0 0
    → Stored (get_or w 0 0) b w (stored_book b w)
unfolding stored_book
stored_book-well_formed b w e v f n = stored-well_formed (get_or w 0 0) b w (well_formed_parts w e).room v f n
