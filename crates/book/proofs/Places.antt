-- What stands at each place of a book's words.
use Prim.Native.Nat.{ℕ, zero, suc, ◌+◌, ◌-◌, ◌*◌, ◌≤◌, ◌<◌}
use mathlib.Core.Path.{◌≡◌, refl, sym, ◌∙◌}
use mathlib.Core.List.{List, [], ◌∷◌, ◌++◌, append_assoc}
use native.Mathlib.Omega.{arith}
use borrow.Author.Tests.{ltb-true, ltb-false}
use borrow.Table.Steps.{cases}
use lib.Dec.{ltb}
use lib.ListN.{length, get_or, take, drop, length-append, length-drop, get_or-append}
use lib.Seq.{get_or-append-add, length-take-le}
use Rattle.book.specs.Book.{Slot, vacant, held, Book}
use Rattle.book.specs.Words.{header, record_words, records_words, layout, cell, record_word, data_words, after_by_stop, after_by_watermark, with_links, data_word}
use Rattle.book.specs.Sizes.{header_length, record_length, store_length, next_by_stop, next_by_watermark, data_length, IsData}

header_length_lem : (b : Book) → length (header b) ≡ header_length
unfolding header
header_length_lem b = refl

------------------------------------------------------------------------
-- The words of a record

pub data_words_length : (s : Slot) → length (data_words s) ≡ data_length
unfolding data_words
data_words_length vacant = refl
data_words_length (held t) = refl

module _ (ws : List ℕ) (long : next_by_stop ≤ length ws) (a c : ℕ) where
  front_length : length (take next_by_stop ws) ≡ next_by_stop
  front_length = length-take-le next_by_stop ws long

  pub with_links_length : length (with_links ws a c) ≡ length ws + 2
  unfolding with_links
  with_links_length = simp (length-append, length-drop) (omega (arith, front_length))

  behind_front : (j : ℕ) → get_or (with_links ws a c) (next_by_stop + j) 0 ≡ get_or (a ∷ c ∷ drop next_by_stop ws) j 0
  unfolding with_links
  behind_front j =
      let e : next_by_stop + j ≡ length (take next_by_stop ws) + j = omega (arith, front_length) in
      rw e (get_or-append-add (take next_by_stop ws) (a ∷ c ∷ drop next_by_stop ws) j 0)

  pub with_links_stop : get_or (with_links ws a c) next_by_stop 0 ≡ a
  with_links_stop = behind_front 0

  pub with_links_watermark : get_or (with_links ws a c) next_by_watermark 0 ≡ c
  with_links_watermark = behind_front 1

  -- a word that is no link is the same, whatever the links
  pub with_links_data : (k : ℕ) → IsData k → get_or (with_links ws a c) k 0 ≡ get_or (with_links ws 0 0) k 0
  unfolding with_links
  with_links_data k d = cases (ltb k next_by_stop)
      (λ e.
      let l : k < length (take next_by_stop ws) = omega (arith, front_length, ltb-true k next_by_stop e) in
      get_or-append (take next_by_stop ws) (a ∷ c ∷ drop next_by_stop ws) 0 k l
      ∙ sym (get_or-append (take next_by_stop ws) (0 ∷ 0 ∷ drop next_by_stop ws) 0 k l))
      (λ e.
      let q : k ≡ length (take next_by_stop ws) + suc (suc (k - next_by_watermark - 1))
      = omega (arith, front_length, ltb-false k next_by_stop e, d.no_stop_link, d.no_watermark_link) in
      rw q (get_or-append-add (take next_by_stop ws) (a ∷ c ∷ drop next_by_stop ws) (suc (suc (k - next_by_watermark - 1))) 0
      ∙ sym (get_or-append-add (take next_by_stop ws) (0 ∷ 0 ∷ drop next_by_stop ws)
      (suc (suc (k - next_by_watermark - 1))) 0)))

pub slot_long : (s : Slot) → next_by_stop ≤ length (data_words s)
slot_long s = omega (arith, data_words_length s)

pub record_words_length : (b : Book) (i : ℕ) (s : Slot) → length (record_words b i s) ≡ record_length
unfolding record_words
record_words_length b i s =
    omega (
      arith,
      with_links_length (data_words s) (slot_long s) (after_by_stop b i s) (after_by_watermark b i s),
      data_words_length s,
    )

pub record_words_data : (b : Book) (i : ℕ) (s : Slot) (k : ℕ) → IsData k → get_or (record_words b i s) k 0 ≡ data_word s k
unfolding record_words
record_words_data b i s = with_links_data (data_words s) (slot_long s) (after_by_stop b i s) (after_by_watermark b i s)

------------------------------------------------------------------------
-- Lengths

records_words_length : (b : Book) (i : ℕ) (ss : List Slot) → length (records_words b i ss) ≡ record_length * length ss
unfolding records_words
records_words_length b i [] = refl
records_words_length b i (s ∷ ss) =
    rw length-append (omega (arith, record_words_length b i s, records_words_length b (suc i) ss))

pub layout_length : (b : Book) → length (layout b) ≡ store_length (length b.slots)
unfolding layout
layout_length b = rw length-append (omega (arith, header_length_lem b, records_words_length b 1 b.slots))

------------------------------------------------------------------------
-- Places

-- word k of the header
pub layout-header : (b : Book) (r : List ℕ) (k : ℕ) → k < header_length → get_or (layout b ++ r) k 0 ≡ get_or (header b) k 0
unfolding layout
layout-header b r k h =
    rw append_assoc (get_or-append (header b) (records_words b 1 b.slots ++ r) 0 k (rw (header_length_lem b) h))

-- how many records there are
pub layout_count : (b : Book) (r : List ℕ) → get_or (layout b ++ r) 0 0 ≡ length b.slots
unfolding header
layout_count b r = layout-header b r 0 (omega arith)

records_words_record : (b : Book) (i : ℕ) (ss : List Slot) (r : List ℕ) (m k : ℕ) → m < length ss → k < record_length
    → get_or (records_words b i ss ++ r) (record_length * m + k) 0 ≡ get_or (record_words b (i + m) (get_or ss m vacant)) k 0
unfolding records_words
records_words_record b i [] r m k h l = absurd (omega arith)
records_words_record b i (s ∷ ss) r zero k h l =
    let z : record_length * 0 + k ≡ k = omega arith in
    let e : i + 0 ≡ i = omega arith in
    rw (z, e, append_assoc)
    (get_or-append (record_words b i s) (records_words b (suc i) ss ++ r) 0 k (rw (record_words_length b i s) l))
records_words_record b i (s ∷ ss) r (suc m) k h l =
    let z : record_length * suc m + k ≡ length (record_words b i s) + (record_length * m + k) =
    omega (arith, record_words_length b i s) in
    let e : i + suc m ≡ suc i + m = omega arith in
    rw (z, e, append_assoc, get_or-append-add (record_words b i s))
    (records_words_record b (suc i) ss r m k (omega arith) l)

-- word k of record i
pub layout_record : (b : Book) (r : List ℕ) (i k : ℕ) → 1 ≤ i → i ≤ length b.slots → k < record_length
    → record_word (layout b ++ r) i k ≡ get_or (record_words b i (get_or b.slots (i - 1) vacant)) k 0
unfolding layout record_word cell
layout_record b r i k low high l =
    let z : header_length + record_length * (i - 1) + k ≡ length (header b) + (record_length * (i - 1) + k) =
    omega (arith, header_length_lem b) in
    let e : 1 + (i - 1) ≡ i = omega arith in
    rw (z, append_assoc, get_or-append-add (header b))
    (rw e at (records_words_record b 1 b.slots r (i - 1) k (omega arith) l))
