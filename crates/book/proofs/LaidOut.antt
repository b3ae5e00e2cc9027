-- Words that stand as a book's do are its layout.
use Prim.Native.Nat.{ℕ, suc, ◌+◌, ◌-◌, ◌*◌, ◌/◌, ◌%◌, ◌≤◌, ◌<◌}
use native.Mathlib.Omega.{arith}
use native.Mathlib.Nat.{div-add-mod', mod-lt}
use mathlib.Core.Path.{◌≡◌, sym, ◌∙◌}
use mathlib.Core.List.{List, [], append-nil}
use borrow.Author.Tests.{ltb-true, ltb-false}
use borrow.Table.Steps.{cases}
use lib.Dec.{ltb}
use lib.ListN.{length, get_or, take, length-take}
use lib.Seq.{get_or-take, ext_get_or}
use Rattle.book.proofs.Places.{layout_length, layout-header, layout_record}
use Rattle.book.specs.Book.{vacant, Book}
use Rattle.book.specs.Words.{header, record_words, layout, cell, record_word}
use Rattle.book.specs.Sizes.{header_length, record_length, store_length}

module _ (w : List ℕ) (b : Book)
    (headers : (k : ℕ) → k < header_length → get_or w k 0 ≡ get_or (header b) k 0)
    (records : (i k : ℕ) → 1 ≤ i → i ≤ length b.slots → k < record_length
    → record_word w i k ≡ get_or (record_words b i (get_or b.slots (i - 1) vacant)) k 0) where
  record-word : (i k : ℕ) → 1 ≤ i → i ≤ length b.slots → k < record_length
      → record_word w i k ≡ record_word (layout b) i k
  record-word i k low high h = records i k low high h ∙ sym (rw append-nil at (layout_record b [] i k low high h))

  each_word : (p : ℕ) → p < store_length (length b.slots) → get_or w p 0 ≡ get_or (layout b) p 0
  unfolding record_word cell
  each_word p h = cases (ltb p header_length)
      (λ e.
      let l = ltb-true p header_length e in
      headers p l ∙ sym (rw append-nil at (layout-header b [] p l)))
      (λ e.
      let l = ltb-false p header_length e in
      let m = (p - header_length) / record_length in
      let k = (p - header_length) % record_length in
      let parts : m * record_length + k ≡ p - header_length = div-add-mod' (p - header_length) record_length in
      let small : k < record_length = mod-lt (p - header_length) (omega arith) in
      let place : header_length + record_length * (suc m - 1) + k ≡ p = omega arith in
      rw place at (record-word (suc m) k (omega arith) (omega arith) small))

  pub layout_taken : store_length (length b.slots) ≤ length w → take (store_length (length b.slots)) w ≡ layout b
  layout_taken room =
      let size : length (take (store_length (length b.slots)) w) ≡ store_length (length b.slots) =
      rw length-take (omega arith) in
      ext_get_or 0 (take (store_length (length b.slots)) w) (layout b) (size ∙ sym (layout_length b))
      (λ p h. let l : p < store_length (length b.slots) = rw size at h in rw get_or-take (each_word p l))
