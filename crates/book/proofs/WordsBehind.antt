-- The words behind a store have no part in it: with more of them or fewer, its form and its book are the same, and a
-- segment on a part that holds the store is a segment on the whole.
use Prim.Native.Nat.{ℕ, ◌+◌, ◌-◌, ◌*◌, ◌≤◌}
use mathlib.Core.Path.{◌≡◌, refl, sym, ap, subst, ◌∙◌}
use mathlib.Core.Bool.{true, ◌&&◌, false≢true}
use mathlib.Core.List.{List, ◌++◌, append_assoc}
use native.Mathlib.Omega.{arith}
use borrow.Table.Steps.{cases}
use lib.Dec.{leb}
use lib.ListN.{length, get_or, take, drop, take-append-drop, length-take}
use lib.Seq.{take-append-add, drop-append-le, get_or-take}
use Rattle.error.specs.Questions.{first_no, decide}
use Rattle.book.proofs.Places.{layout_length}
use Rattle.book.proofs.ReadBack.{book_of-layout}
use Rattle.book.proofs.WellFormed.{well_formed-valid, well_formed_fits, well_formed-layout, well_formed_parts, layout-well_formed, book_of_slots_length}
use Rattle.book.specs.Book.{Book, pending_count}
use Rattle.book.specs.Calls.{Settings, SegmentOutcome, pending_in, segment_questions, segment_call}
use Rattle.book.specs.Sizes.{store_length, most_records, most_words}
use Rattle.book.specs.Store.{stored, stored_book}
use Rattle.book.specs.Words.{layout, book_of, well_formed}
use Rattle.book.specs.declared.PrintSegment.{PrintSegment}

-- a beginning that holds the first of two lists
cut_append : (k : ℕ) (l r : List ℕ) → length l ≤ k → take k (l ++ r) ≡ l ++ take (k - length l) r
cut_append k l r h =
    let e : length l + (k - length l) ≡ k = omega arith in
    ap (λ (j : ℕ). take j (l ++ r)) (sym e) ∙ take-append-add l r (k - length l)

-- the same store, by its form and its book
pub record SameStore (w v : List ℕ) : Type 0 where
  pub formed : well_formed v ≡ true
  pub book : book_of v ≡ book_of w

module _ (w : List ℕ) (formed : well_formed w ≡ true) where
  layout_same : (r : List ℕ) → SameStore w (layout (book_of w) ++ r)
  layout_same r = record {
    formed = layout-well_formed (book_of w) r (well_formed-valid w formed) (well_formed_fits w formed);
    book = book_of-layout (book_of w) r (well_formed-valid w formed);
  }

  pub append_same : (r : List ℕ) → SameStore w (w ++ r)
  append_same r =
      let behind = drop (store_length (get_or w 0 0)) w in
      subst (SameStore w)
      (sym (append_assoc (layout (book_of w)) behind r) ∙ ap (λ (l : List ℕ). l ++ r) (sym (well_formed-layout w formed)))
      (layout_same (behind ++ r))

  -- a part that holds the store
  pub take_same : (k : ℕ) → most_words ≤ k → SameStore w (take k w)
  take_same k most =
      let size : length (layout (book_of w)) ≤ k = omega (arith, layout_length (book_of w), (well_formed-valid w formed).few_records) in
      let front : take k (layout (book_of w) ++ behind) ≡ layout (book_of w) ++ take (k - length (layout (book_of w))) behind =
      cut_append k (layout (book_of w)) behind size in
      subst (SameStore w) (sym front ∙ ap (take k) (sym (well_formed-layout w formed)))
      (layout_same (take (k - length (layout (book_of w))) behind))
    where
      behind : List ℕ
      behind = drop (store_length (get_or w 0 0)) w

-- a part has the form of the whole, and where that is well formed its book
module _ (w : List ℕ) (k : ℕ) (most : most_words ≤ k) where
  pub take-formed : well_formed (take k w) ≡ well_formed w
  take-formed = cases (well_formed w) (λ e. (take_same w e k most).formed ∙ sym e)
      (λ e. cases (well_formed (take k w))
      (λ f.
      let whole : well_formed w ≡ true = rw take-append-drop at (append_same (take k w) f (drop k w)).formed in
      absurd (false≢true (sym e ∙ whole)))
      (λ f. f ∙ sym e))

  -- a book stored in the part, with the words that are not in it
  part-stored : (b : Book) → well_formed w ≡ true → stored_book b (take k w) ++ drop k w ≡ stored_book b w
  unfolding stored_book stored
  part-stored b formed =
      let n : ℕ = store_length (get_or w 0 0) in
      let first : get_or (take k w) 0 0 ≡ get_or w 0 0 = get_or-take k w 0 0 (omega arith) in
      let few : get_or w 0 0 ≤ most_records = rw book_of_slots_length at (well_formed-valid w formed).few_records in
      let inside : n ≤ length (take k w) = rw length-take (omega (arith, (well_formed_parts w formed).room)) in
      rw first (append_assoc (layout b) (drop n (take k w)) (drop k w)
      ∙ ap (λ (l : List ℕ). layout b ++ l) (sym (drop-append-le n (take k w) (drop k w) inside)
      ∙ ap (drop n) (take-append-drop k w)))

-- what a call on a part of the words does, with the words that it was not lent, is what it does on the whole
pub record PartOf (rest : List ℕ) (part whole : SegmentOutcome) : Type 0 where
  pub answer : part.answer ≡ whole.answer
  pub elected : part.elected ≡ whole.elected
  pub moved : part.moved ≡ whole.moved
  pub words : part.words ++ rest ≡ whole.words

pub segment_part : (s : Settings) (prints : PrintSegment) (w : List ℕ) (k elected moved : ℕ) → most_words ≤ k
    → PartOf (drop k w) (segment_call s prints (take k w) elected moved) (segment_call s prints w elected moved)
unfolding segment_call segment_questions pending_in first_no decide
segment_part s prints w k elected moved most = cases (well_formed w)
    (λ e.
    let part = take_same w e k most in
    rw (part.formed, part.book, e)
    (cases (leb (pending_count (book_of w).slots) elected && leb (2 * pending_count (book_of w).slots) moved)
    (λ f. rw f (record { answer = refl; elected = refl; moved = refl; words = part-stored w k most _ e }))
    (λ f. rw f (record { answer = refl; elected = refl; moved = refl; words = take-append-drop k w }))))
    (λ e. rw (take-formed w k most, e)
    (record { answer = refl; elected = refl; moved = refl; words = take-append-drop k w }))
