-- The words of a valid book read back as that book.
use Prim.Native.Nat.{ℕ, zero, suc, ◌+◌, ◌-◌, ◌≤◌, ◌<◌}
use mathlib.Core.Path.{◌≡◌, refl, sym, ap, ◌∙◌}
use mathlib.Core.Logic.{◌≢◌}
use mathlib.Core.Bool.{true}
use mathlib.Core.List.{List, [], ◌∷◌, ◌++◌}
use native.Mathlib.Omega.{arith}
use borrow.Author.Tests.{eq-eqb, ne_eqb}
use lib.ListN.{length, get_or}
use Rattle.pricelevel.specs.Identity.{kind_number}
use Rattle.pricelevel.specs.Side.{side_number}
use Rattle.pricelevel.specs.declared.IdKind.{IdKind}
use Rattle.pricelevel.specs.declared.IdKind.TheVariants.{Uuid, Ulid, Sequential}
use Rattle.pricelevel.specs.declared.Side.{Side}
use Rattle.pricelevel.specs.declared.Side.TheVariants.{Buy, Sell}
use Rattle.book.proofs.FreeChain.{VacantFrom, free_all_vacant, free_distinct, free_count}
use Rattle.book.proofs.Sort.{Distinct}
use Rattle.book.proofs.Lists.{all_map, all_map_both, all_get_d}
use Rattle.book.proofs.Places.{layout-header, layout_record}
use Rattle.book.proofs.Soundness.{sound_parts}
use Rattle.book.specs.Valid.{Valid}
use Rattle.book.specs.Book.{Slot, vacant, held, Book}
use Rattle.book.specs.Lists.{head_or0, All}
use Rattle.book.specs.Words.{next_in, header, record_words, layout, record_word, kind_of, side_from, entry_at, slot_at, slots_at, free_from, book_of, sound_stop, data_words, after_by_stop, after_by_watermark, with_links}
use Rattle.book.specs.Sizes.{header_length, record_length, next_by_stop}

------------------------------------------------------------------------
-- Numbers of kinds and sides

pub kind_of-number : (k : IdKind) → kind_of (kind_number k) ≡ k
unfolding kind_of
kind_of-number Uuid = refl
kind_of-number Ulid = refl
kind_of-number Sequential = refl

pub side_from-number : (s : Side) → side_from (side_number s) ≡ s
unfolding side_from
side_from-number Buy = refl
side_from-number Sell = refl

------------------------------------------------------------------------
-- Records

-- the words of a slot read as that slot
slot_at_words : (w : List ℕ) (b : Book) (i : ℕ) (s : Slot) → sound_stop b.next b.tick s ≡ true
    → ((k : ℕ) → k < record_length → record_word w i k ≡ get_or (record_words b i s) k 0) → slot_at w i ≡ s
unfolding slot_at entry_at record_words data_words after_by_stop after_by_watermark with_links
slot_at_words w b i vacant h words = rw (words 7 (omega arith))
slot_at_words w b i (held t) h words =
    let q : record_word w i 7 ≡ t.quantity.0 = words 7 (omega arith) in
    let n : record_word w i 7 ≢ 0 = omega (arith, (sound_parts b.next b.tick t h).quantity) in
    rw (ne_eqb (record_word w i 7) 0 n)
    (λ x. held (record {
      id = record {
        kind = (ap kind_of (words 0 (omega arith)) ∙ kind_of-number t.id.kind) x;
        high = words 1 (omega arith) x;
        low = words 2 (omega arith) x;
      };
      terms = record {
        side = (ap side_from (words 3 (omega arith)) ∙ side_from-number t.terms.side) x;
        stop = record { 0 = words 4 (omega arith) x };
        watermark = record { 0 = words 5 (omega arith) x };
        trail = words 6 (omega arith) x;
      };
      quantity = record { 0 = q x };
      seq = record { 0 = words 8 (omega arith) x };
      holder = record {
        0 = words 11 (omega arith) x;
        1 = words 12 (omega arith) x;
        2 = words 13 (omega arith) x;
        3 = words 14 (omega arith) x;
      };
    }))

pub slots_at_length : (w : List ℕ) (i k : ℕ) → length (slots_at w i k) ≡ k
unfolding slots_at
slots_at_length w i zero = refl
slots_at_length w i (suc k) = ap suc (slots_at_length w (suc i) k)

-- slots that stand at their places read back, from index i on
slots_at_slots : (w : List ℕ) (i : ℕ) (ss : List Slot) → ((m : ℕ) → m < length ss → slot_at w (i + m) ≡ get_or ss m vacant)
    → slots_at w i (length ss) ≡ ss
unfolding slots_at
slots_at_slots w i [] h = refl
slots_at_slots w i (s ∷ ss) h =
    let z : i + 0 ≡ i = omega arith in
    let first : slot_at w i ≡ s = rw z at (h 0 (omega arith)) in
    let shift : (m : ℕ) → suc i + m ≡ i + suc m = omega arith in
    let rest = slots_at_slots w (suc i) ss (λ m l. rw (shift m) (h (suc m) (omega arith))) in
    cc

------------------------------------------------------------------------
-- The free chain

pub next_in_here : (i : ℕ) (l : List ℕ) → next_in (i ∷ l) i ≡ head_or0 l
unfolding next_in
next_in_here i l = rw (eq-eqb i i refl)

pub next_in_there : (i j : ℕ) (l : List ℕ) → i ≢ j → next_in (i ∷ l) j ≡ next_in l j
unfolding next_in
next_in_there i j l n = rw (ne_eqb j i (λ e. n (sym e)))

-- a chain without repeats is read along the links in word 9 of its records
free_from-chain : (w : List ℕ) (k : ℕ) (l : List ℕ) → length l ≤ k → Distinct l
    → All (λ i. (1 ≤ i) × (record_word w i next_by_stop ≡ next_in l i)) l
    → free_from w k (head_or0 l) ≡ l
unfolding free_from head_or0
free_from-chain w zero [] h d links = refl
free_from-chain w zero (i ∷ l) h d links = absurd (omega arith)
free_from-chain w (suc k) [] h d links = refl
free_from-chain w (suc k) (i ∷ l) h d links =
    let next : record_word w i next_by_stop ≡ head_or0 l = links.0.1 ∙ next_in_here i l in
    let rest =
    all_map_both {P = λ j. i ≢ j} {Q = λ j. (1 ≤ j) × (record_word w j next_by_stop ≡ next_in (i ∷ l) j)} {R = λ j. (1 ≤ j)
    × (record_word w j next_by_stop ≡ next_in l j)}
    (λ j n e. (e.0, e.1 ∙ next_in_there i j l n)) l d.0 links.1 in
    rw (ne_eqb i 0 (omega arith), next, free_from-chain w k l (omega arith) d.1 rest)

------------------------------------------------------------------------
-- The book

module _ (b : Book) (r : List ℕ) (v : Valid b) where
  slot_at-layout : (m : ℕ) → m < length b.slots → slot_at (layout b ++ r) (1 + m) ≡ get_or b.slots m vacant
  unfolding sound_stop
  slot_at-layout m l =
      let e : 1 + m - 1 ≡ m = omega arith in
      slot_at_words (layout b ++ r) b (1 + m) (get_or b.slots m vacant)
      (all_get_d (λ s. sound_stop b.next b.tick s ≡ true) b.slots m vacant refl v.sound)
      (λ k h. rw e at (layout_record b r (1 + m) k (omega arith) (omega arith) h))

  free_link : (i : ℕ) → VacantFrom 1 b.slots i
      → (1 ≤ i) × (record_word (layout b ++ r) i next_by_stop ≡ next_in b.free i)
  unfolding record_words data_words after_by_stop after_by_watermark with_links
  free_link i h = (h.low, rw h.is_vacant at (layout_record b r i 9 h.low (omega arith) (omega arith)))

  header_word : (k : ℕ) → k < header_length → get_or (layout b ++ r) k 0 ≡ get_or (header b) k 0
  header_word = layout-header b r

  slots_at-layout : slots_at (layout b ++ r) 1 (get_or (layout b ++ r) 0 0) ≡ b.slots
  unfolding header
  slots_at-layout = rw (header_word 0 (omega arith)) (slots_at_slots (layout b ++ r) 1 b.slots slot_at-layout)

  free_from-layout : free_from (layout b ++ r) (get_or (layout b ++ r) 0 0) (get_or (layout b ++ r) 8 0) ≡ b.free
  unfolding header
  free_from-layout =
      let links = all_map {Q = λ i. (1 ≤ i) × (record_word (layout b ++ r) i next_by_stop ≡ next_in b.free i)} free_link
      b.free (free_all_vacant b v) in
      rw (header_word 0 (omega arith), header_word 8 (omega arith))
      (free_from-chain (layout b ++ r) (length b.slots) b.free (omega (arith, free_count b v))
      (free_distinct b v) links)

  pub book_of-layout : book_of (layout b ++ r) ≡ b
  unfolding book_of header
  book_of-layout =
      λ x. record {
        next = header_word 2 (omega arith) x;
        tick = header_word 3 (omega arith) x;
        slots = slots_at-layout x;
        free = free_from-layout x;
      }
