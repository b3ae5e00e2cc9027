-- Stores that differ in holders alone read as books that do, with the same words behind them, and books that do are
-- stored as such stores. Document 02, One.
use Prim.Native.Nat.{ℕ, zero, suc, ◌+◌, ◌-◌, ◌*◌, ◌/◌, ◌%◌, ◌≤◌, ◌<◌}
use native.Mathlib.Omega.{arith}
use native.Mathlib.Nat.{div-add-mod', mod-lt}
use mathlib.Core.Path.{◌≡◌, refl, sym, ap, ◌∙◌}
use mathlib.Core.List.{List, ◌++◌, map}
use borrow.Author.Tests.{ltb-true, ltb-false}
use borrow.Table.Steps.{cases}
use lib.Dec.{ltb, eqb}
use lib.ListN.{length, get_or, take, drop, length-append, length-drop, length-map, get_or-map}
use lib.Seq.{get_or-take, get_or-drop, get_or-append-add, ext_get_or}
use Rattle.pricelevel.specs.declared.Side.TheVariants.{Buy, Sell}
use Rattle.book.proofs.Places.{layout_length, layout-header, layout_count, layout_record}
use Rattle.book.proofs.Holderless.{holderless_slot, holderless_book, chain_indices_holderless, pending_count_holderless}
use Rattle.book.specs.Book.{Slot, vacant, held, Book, ByStop, ByWatermark, side_of}
use Rattle.book.specs.Holders.{HolderPlace, AlikeButHolders}
use Rattle.book.specs.Sizes.{header_length, record_length, store_length, next_by_stop, first_holder_word}
use Rattle.book.specs.Store.{stored, stored_book}
use Rattle.book.specs.Words.{header, data_words, after_by_stop, after_by_watermark, with_links, record_words, layout, cell, record_word, entry_at, slot_at, slots_at, free_from, book_of}

------------------------------------------------------------------------
-- From words to books

module _ {w v : List ℕ} (h : AlikeButHolders w v) where
  header_alike : (k : ℕ) → k < header_length → get_or w k 0 ≡ get_or v k 0
  unfolding cell
  header_alike k l = h.others k (λ q. omega arith)

  record-alike : (i k : ℕ) → k < first_holder_word → record_word w i k ≡ record_word v i k
  unfolding record_word cell
  record-alike i k l = h.others (header_length + record_length * (i - 1) + k) (λ q. omega arith)

  -- how many records there are
  pub count_alike : get_or w 0 0 ≡ get_or v 0 0
  count_alike = header_alike 0 (omega arith)

  slot_at_alike : (i : ℕ) → holderless_slot (slot_at w i) ≡ holderless_slot (slot_at v i)
  unfolding slot_at entry_at
  slot_at_alike i = rw (record-alike i 7 (omega arith))
      (cases (eqb (record_word v i 7) 0) (λ e. rw e)
      (λ e. rw (
        e,
        record-alike i 0 (omega arith),
        record-alike i 1 (omega arith),
        record-alike i 2 (omega arith),
        record-alike i 3 (omega arith),
        record-alike i 4 (omega arith),
        record-alike i 5 (omega arith),
        record-alike i 6 (omega arith),
        record-alike i 8 (omega arith),
      )))

  slots_at_alike : (i k : ℕ) → map holderless_slot (slots_at w i k) ≡ map holderless_slot (slots_at v i k)
  unfolding slots_at
  slots_at_alike i zero = refl
  slots_at_alike i (suc k) = rw (slot_at_alike i, slots_at_alike (suc i) k)

  free_from_alike : (k i : ℕ) → free_from w k i ≡ free_from v k i
  unfolding free_from
  free_from_alike zero i = refl
  free_from_alike (suc k) i = rw (record-alike i next_by_stop (omega arith), free_from_alike k (record_word v i next_by_stop))

  pub books_alike : holderless_book (book_of w) ≡ holderless_book (book_of v)
  unfolding book_of
  books_alike = rw (
    header_alike 2 (omega arith),
    header_alike 3 (omega arith),
    header_alike 8 (omega arith),
    count_alike,
    slots_at_alike 1 (get_or v 0 0),
    free_from_alike (get_or v 0 0) (get_or v 8 0),
  )

  beyond_alike : drop (store_length (get_or w 0 0)) w ≡ drop (store_length (get_or v 0 0)) v
  unfolding cell
  beyond_alike =
      let n = get_or w 0 0 in
      rw (← count_alike) (ext_get_or 0 (drop (store_length n) w) (drop (store_length n) v)
      (simp length-drop (rw h.size))
      (λ p l. simp get_or-drop (h.others (store_length n + p) (λ q. omega arith))))

------------------------------------------------------------------------
-- To differ in holders alone is an equivalence

-- the places of holders go by the number of records alone
place_count : {w v : List ℕ} {p : ℕ} → get_or w 0 0 ≡ get_or v 0 0 → HolderPlace w p → HolderPlace v p
place_count e q = record {
  index = q.index;
  word = q.word;
  from = q.from;
  to = omega arith;
  behind_links = q.behind_links;
  inside = q.inside;
  at = q.at;
}

pub alike_sym : {w v : List ℕ} → AlikeButHolders w v → AlikeButHolders v w
alike_sym h = record {
  size = sym h.size;
  others = λ p n. sym (h.others p (λ q. n (place_count (count_alike h) q)));
}

pub alike_trans : {w v u : List ℕ} → AlikeButHolders w v → AlikeButHolders v u → AlikeButHolders w u
alike_trans h k = record {
  size = h.size ∙ k.size;
  others = λ p n. h.others p n ∙ k.others p (λ q. n (place_count (sym (count_alike h)) q));
}

------------------------------------------------------------------------
-- From books to words

-- a place is in the header, in a record, or behind the store
place_cases : {P : Type 0} (n p : ℕ) → (p < header_length → P)
    → ((i k : ℕ) → 1 ≤ i → i ≤ n → k < record_length → p ≡ cell i k → P)
    → (store_length n ≤ p → P) → P
unfolding cell
place_cases n p inHeader inRecord behind = cases (ltb p header_length) (λ e. inHeader (ltb-true p header_length e))
    (λ e.
    let l = ltb-false p header_length e in
    let m = (p - header_length) / record_length in
    let k = (p - header_length) % record_length in
    let parts : m * record_length + k ≡ p - header_length = div-add-mod' (p - header_length) record_length in
    let small : k < record_length = mod-lt (p - header_length) (omega arith) in
    cases (ltb m n)
    (λ f. inRecord (suc m) k (omega arith) (omega (arith, ltb-true m n f)) small (omega arith))
    (λ f. behind (omega (arith, ltb-false m n f))))

header_holderless : (b : Book) → header (holderless_book b) ≡ header b
unfolding header
header_holderless b = rw (
  length-map b.slots holderless_slot,
  pending_count_holderless b.slots,
  chain_indices_holderless (ByStop Sell) b,
  chain_indices_holderless (ByWatermark Sell) b,
  chain_indices_holderless (ByStop Buy) b,
  chain_indices_holderless (ByWatermark Buy) b,
)

-- the words of a record up to its holder
record_words_holderless : (b : Book) (i : ℕ) (s : Slot)
    → take first_holder_word (record_words (holderless_book b) i (holderless_slot s))
    ≡ take first_holder_word (record_words b i s)
unfolding record_words data_words after_by_stop after_by_watermark with_links
record_words_holderless b i vacant = refl
record_words_holderless b i (held t) =
    rw (chain_indices_holderless (ByStop (side_of t)) b, chain_indices_holderless (ByWatermark (side_of t)) b)

module _ (b : Book) (r : List ℕ) where
  record-holderless : (i k : ℕ) → 1 ≤ i → i ≤ length b.slots → k < first_holder_word
      → record_word (layout b ++ r) i k ≡ record_word (layout (holderless_book b) ++ r) i k
  record-holderless i k low high l =
      let s = get_or b.slots (i - 1) vacant in
      let there : get_or (map holderless_slot b.slots) (i - 1) vacant ≡ holderless_slot s =
      get_or-map holderless_slot b.slots (i - 1) vacant in
      let few : i ≤ length (map holderless_slot b.slots) = rw (length-map b.slots holderless_slot) high in
      rw (
        layout_record b r i k low high (omega arith),
        layout_record (holderless_book b) r i k low few (omega arith),
        there,
      )
      (sym (get_or-take first_holder_word (record_words b i s) k 0 l)
      ∙ ap (λ (l : List ℕ). get_or l k 0) (sym (record_words_holderless b i s))
      ∙ get_or-take first_holder_word (record_words (holderless_book b) i (holderless_slot s)) k 0 l)

  lengths_holderless : length (layout (holderless_book b)) ≡ length (layout b)
  lengths_holderless = rw (layout_length b, layout_length (holderless_book b), length-map b.slots holderless_slot)

  behind_holderless : (p : ℕ) → length (layout b) ≤ p
      → get_or (layout b ++ r) p 0 ≡ get_or (layout (holderless_book b) ++ r) p 0
  behind_holderless p l =
      let q = p - length (layout b) in
      let old : p ≡ length (layout b) + q = omega arith in
      let new : length (layout b) + q ≡ length (layout (holderless_book b)) + q = rw lengths_holderless in
      rw (old, get_or-append-add (layout b) r q 0, new) (sym (get_or-append-add (layout (holderless_book b)) r q 0))

  layout_holderless : AlikeButHolders (layout b ++ r) (layout (holderless_book b) ++ r)
  unfolding record_word
  layout_holderless = record {
    size = simp length-append (rw lengths_holderless);
    others =
        λ p n. place_cases (length b.slots) p
        (λ l.
        layout-header b r p l ∙ ap (λ (l : List ℕ). get_or l p 0) (sym (header_holderless b))
        ∙ sym (layout-header (holderless_book b) r p l))
        (λ i k low high small e. cases (ltb k first_holder_word)
        (λ f. rw e (record-holderless i k low high (ltb-true k first_holder_word f)))
        (λ f. absurd (n (record {
          index = i;
          word = k;
          from = low;
          to = rw (layout_count b r) high;
          behind_links = ltb-false k first_holder_word f;
          inside = small;
          at = e;
        }))))
        (λ l. behind_holderless p (rw (layout_length b) l));
  }

pub layouts_alike : (b c : Book) (r : List ℕ) → holderless_book b ≡ holderless_book c
    → AlikeButHolders (layout b ++ r) (layout c ++ r)
layouts_alike b c r e = alike_trans (rw e at (layout_holderless b r)) (alike_sym (layout_holderless c r))

-- books that differ in holders alone, each in the place of its store
pub stored_alike : {w v : List ℕ} (b c : Book) → holderless_book b ≡ holderless_book c → AlikeButHolders w v
    → AlikeButHolders (stored_book b w) (stored_book c v)
unfolding stored_book stored
stored_alike b c e h = rw (beyond_alike h) (layouts_alike b c _ e)
