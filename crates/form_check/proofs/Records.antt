-- A record by itself: what its test says of its words, and its words against those of a book.
use Prim.Native.Nat.{ℕ, ◌≤◌, ◌<◌}
use native.Mathlib.Omega.{arith}
use mathlib.Core.Path.{◌≡◌, refl, sym, ◌∙◌}
use mathlib.Core.Logic.{◌≢◌}
use mathlib.Core.Bool.{true}
use mathlib.Core.List.{List}
use borrow.Author.Tests.{leb-true, le-leb, eqb-true, eqb-false, eq-eqb, ne_eqb}
use borrow.Table.Steps.{cases}
use lib.Dec.{leb, eqb}
use lib.ListN.{get_or}
use Rattle.pricelevel.proofs.Bools.{and_parts}
use Rattle.book.proofs.Lists.{every_all, all-every}
use Rattle.book.specs.Book.{vacant, held, Book, side_of}
use Rattle.book.specs.Lists.{rising, All}
use Rattle.book.specs.Words.{next_in, record_words, record_word, entry_at, slot_at, sound_stop, data_words, after_by_stop, after_by_watermark, with_links, kind_of, side_from}
use Rattle.book.specs.Sizes.{record_length, next_by_stop, next_by_watermark, IsData}
use Rattle.book.specs.declared.Chain.TheVariants.{ByStop, ByWatermark}
use Rattle.book.specs.Chains.{next_of, chains_of}
use Rattle.form_check.specs.Check.{is_zero, blank_at, blank, record_formed}
use Rattle.book.specs.declared.StoreChain.{StoreChain}
use Rattle.book.specs.declared.StoreChain.TheVariants.{Ordered, Free}
use Rattle.book.proofs.Tests.{rising_at, rising_all}
use Rattle.book.proofs.Slots.{slot_at_vacant, slot_at_held, side_number_from, side_number_most, kind_number_of, kind_number_most}
use Rattle.form_check.proofs.Walks.{InGroup}

module _ (w : List ℕ) (i : ℕ) where
  abbrev Zero : ℕ → Type 0
  Zero k = record_word w i k ≡ 0

  pub data RecordForm : Type 0 where
    free : record_word w i 7 ≡ 0 → ((k : ℕ) → k < record_length → k ≢ next_by_stop → Zero k) → RecordForm
    pending : (record_word w i 7 ≡ 0 → ⊥) → record_word w i 0 ≤ 2 → record_word w i 3 ≤ 1
        → sound_stop (get_or w 2 0) (get_or w 3 0) (held (entry_at w i)) ≡ true → RecordForm

  blank_zero : (k : ℕ) → blank_at w i k ≡ true → k ≢ next_by_stop → Zero k
  unfolding blank_at is_zero
  blank_zero k e n = eqb-true _ _ (rw (ne_eqb k next_by_stop n) at e)

  zero-blank : (k : ℕ) → (k ≢ next_by_stop → Zero k) → blank_at w i k ≡ true
  unfolding blank_at is_zero
  zero-blank k z = cases (eqb k next_by_stop) (λ e. rw e)
      (λ e. rw (e, eq-eqb (record_word w i k) 0 (z (eqb-false k next_by_stop e))))

  pub record-form : record_formed w i ≡ true → RecordForm
  unfolding record_formed blank is_zero
  record-form e = cases (eqb (record_word w i 7) 0)
      (λ q.
      let h = every_all (blank_at w i) (rising 0 record_length) (rw q at e) in
      free (eqb-true _ _ q)
      (λ k l. blank_zero k (rising_at (λ k. blank_at w i k ≡ true) 0 record_length h k (omega arith) (omega arith))))
      (λ q.
      let kind = and_parts (leb (record_word w i 0) 2) _ (rw q at e) in
      let side = and_parts (leb (record_word w i 3) 1) _ kind.1 in
      pending (eqb-false _ _ q) (leb-true _ _ kind.0) (leb-true _ _ side.0) side.1)

  pub form_record : RecordForm → record_formed w i ≡ true
  unfolding record_formed blank is_zero
  form_record (free q zeros) =
      rw (
        eq-eqb (record_word w i 7) 0 q,
        all-every (blank_at w i) (rising 0 record_length)
            (rising_all (λ k. blank_at w i k ≡ true) 0 record_length
            (λ k low high. zero-blank k (zeros k (omega arith)))),
      )
  form_record (pending q kind side sound) =
      rw (ne_eqb (record_word w i 7) 0 q, le-leb (record_word w i 0) 2 kind, le-leb (record_word w i 3) 1 side, sound)

  pub form_sound : RecordForm → sound_stop (get_or w 2 0) (get_or w 3 0) (slot_at w i) ≡ true
  unfolding sound_stop
  form_sound (free q zeros) = rw (slot_at_vacant w i q)
  form_sound (pending q kind side sound) = rw (slot_at_held w i q) sound

  ------------------------------------------------------------------------
  -- Its words are those of the book that links it as they do

  module _ (b : Book) where
    pub form_words : RecordForm
        → ((k : StoreChain) → InGroup k w i → record_word w i (next_of k) ≡ next_in (chains_of b k) i)
        → All (λ k. record_word w i k ≡ get_or (record_words b i (slot_at w i)) k 0) (rising 0 record_length)
    unfolding record_words data_words after_by_stop after_by_watermark with_links rising entry_at
    form_words (free q zeros) links =
        let s = slot_at_vacant w i q in
        let zero : (k : ℕ) → IsData k → Zero k = λ k d. zeros k d.inside d.no_stop_link in
        rw s (
          zero 0 (omega arith),
          (
            zero 1 (omega arith),
            (
              zero 2 (omega arith),
              (
                zero 3 (omega arith),
                (
                  zero 4 (omega arith),
                  (
                    zero 5 (omega arith),
                    (
                      zero 6 (omega arith),
                      (
                        zero 7 (omega arith),
                        (
                          zero 8 (omega arith),
                          (
                            links Free (rw s),
                            (
                              zeros next_by_watermark (omega arith) (omega arith),
                              (
                                zero 11 (omega arith),
                                (zero 12 (omega arith), (zero 13 (omega arith), (zero 14 (omega arith), tt))),
                              ),
                            ),
                          ),
                        ),
                      ),
                    ),
                  ),
                ),
              ),
            ),
          ),
        )
    form_words (pending q kind side sound) links =
        let s = slot_at_held w i q in
        let stop = links (Ordered (ByStop (side_of (entry_at w i)))) (rw s) in
        let watermark = links (Ordered (ByWatermark (side_of (entry_at w i)))) (rw s) in
        rw s (
          sym (kind_number_of _ kind),
          (
            refl,
            (
              refl,
              (
                sym (side_number_from _ side),
                (refl, (refl, (refl, (refl, (refl, (stop, (watermark, (refl, (refl, (refl, (refl, tt))))))))))),
              ),
            ),
          ),
        )

    blank_word : (k : ℕ) → k < record_length → k ≢ next_by_stop → get_or (record_words b i vacant) k 0 ≡ 0
    unfolding record_words data_words after_by_stop after_by_watermark with_links rising
    blank_word k h = rising_at (λ k. k ≢ next_by_stop → get_or (record_words b i vacant) k 0 ≡ 0) 0 record_length (
      λ n. refl,
      (
        λ n. refl,
        (
          λ n. refl,
          (
            λ n. refl,
            (
              λ n. refl,
              (
                λ n. refl,
                (
                  λ n. refl,
                  (
                    λ n. refl,
                    (
                      λ n. refl,
                      (
                        λ n. absurd (n refl),
                        (λ n. refl, (λ n. refl, (λ n. refl, (λ n. refl, (λ n. refl, tt))))),
                      ),
                    ),
                  ),
                ),
              ),
            ),
          ),
        ),
      ),
    ) k (omega arith) (omega arith)

    -- and the other way
    pub words_form : sound_stop (get_or w 2 0) (get_or w 3 0) (slot_at w i) ≡ true
        → ((k : ℕ) → k < record_length → record_word w i k ≡ get_or (record_words b i (slot_at w i)) k 0) → RecordForm
    unfolding record_words data_words after_by_stop after_by_watermark with_links rising entry_at
    words_form sound words = cases (eqb (record_word w i 7) 0)
        (λ e.
        let s = slot_at_vacant w i (eqb-true _ _ e) in
        let word : (k : ℕ) → k < record_length → record_word w i k ≡ get_or (record_words b i vacant) k 0 =
        λ k h. rw s at (words k h) in
        free (eqb-true _ _ e) (λ k h n. word k h ∙ blank_word k h n))
        (λ e.
        let s = slot_at_held w i (eqb-false _ _ e) in
        let word : (k : ℕ) → k < record_length → record_word w i k ≡ get_or (record_words b i (held (entry_at w i))) k 0 =
        λ k h. rw s at (words k h) in
        pending (eqb-false _ _ e)
        (omega (arith, word 0 (omega arith), kind_number_most (kind_of (record_word w i 0))))
        (omega (arith, word 3 (omega arith), side_number_most (side_from (record_word w i 3))))
        (rw s at sound))
