-- The operations on a book keep it valid, its numbers words, and its records as many as they were.
use Prim.Native.Nat.{ℕ, zero, suc, ◌+◌, ◌-◌, ◌≤◌, ◌<◌, ◌^◌}
use native.Mathlib.Omega.{arith}
use mathlib.Core.Path.{◌≡◌, refl, ap}
use mathlib.Core.Bool.{Bool, true}
use mathlib.Core.List.{List, [], ◌∷◌}
use borrow.Author.Tests.{ltb-true, leb-true, not-true}
use lib.ListN.{length, set, drop, replicate, length-set, length-replicate}
use Rattle.pricelevel.specs.declared.Holder.{Holder}
use Rattle.pricelevel.specs.declared.Id.{Id}
use Rattle.pricelevel.specs.declared.Quantity.{Quantity}
use Rattle.stop_terms.specs.declared.StopTerms.{StopTerms}
use Rattle.book.proofs.Differences.{SlotsDiffer, slots_differ_vacant, all_differ_set, new_slots_differ}
use Rattle.book.proofs.FreeChain.{pending_count_vacant}
use Rattle.book.proofs.Lists.{all_map, all_of, all_map_both, all_set, all_replicate}
use Rattle.book.proofs.Lookup.{InBook, lookup_none, is_pending_none}
use Rattle.book.proofs.Questions.{first_no_none}
use Rattle.book.proofs.VacantIndices.{Taken, vacant_indices-rising, vacant_indices_empty, vacant_indices-vacated, vacant_indices_taken, pending_count_set}
use Rattle.book.proofs.Soundness.{sound_of, sound_later, consistent_of}
use Rattle.book.specs.Valid.{Admissible, Valid, StopFits, SlotFits, Fits}
use Rattle.book.specs.Book.{Slot, vacant, held, Book, Pending, pending_count}
use Rattle.book.specs.Lists.{head_or0, sort_by, All}
use Rattle.error.specs.Questions.{first_no}
use Rattle.book.specs.Store.{empty_book, admission_questions, admitted, new_entry, vacated}
use Rattle.book.specs.Words.{sound_stop, all_differ, vacant_indices, sort_rising, book_of, well_formed}
use Rattle.book.specs.Sizes.{most_records}
use Rattle.book.specs.declared.StopEntry.{StopEntry}
use Rattle.std.specs.Prelude.{None, Option}
use Rattle.pricelevel.specs.declared.Price.{Price}

------------------------------------------------------------------------
-- One record is set

abbrev pub with_slot : Book → ℕ → ℕ → Slot → List ℕ → Book
with_slot b next k s free = record { next = next; tick = b.tick; slots = set b.slots k s; free = free }

pub with_slot-valid : (b : Book) (next k : ℕ) (s : Slot) (free : List ℕ) → Valid b → b.next ≤ next
    → sound_stop next b.tick s ≡ true
    → All (SlotsDiffer s) (set b.slots k vacant) → sort_rising free ≡ vacant_indices 1 (set b.slots k s)
    → Valid (with_slot b next k s free)
with_slot-valid b next k s free v later sound apart indices = record {
  some_records = rw length-set v.some_records;
  few_records = rw length-set v.few_records;
  sound = all_set (λ s. sound_stop next b.tick s ≡ true) b.slots k s sound
      (all_map (λ s. sound_later b.next next b.tick s later) b.slots v.sound);
  differ = all_differ_set b.slots k s v.differ apart;
  free_vacant = indices;
}

pub with_slot_fits : (b : Book) (next k : ℕ) (s : Slot) (free : List ℕ) → Fits b → next < 2 ^ 64 → SlotFits s
    → Fits (with_slot b next k s free)
with_slot_fits b next k s free f h fits = record {
  next = h;
  tick = f.tick;
  slots = all_set SlotFits b.slots k s fits f.slots;
}

------------------------------------------------------------------------
-- The empty book

empty_differ : (n : ℕ) → all_differ (replicate n vacant) ≡ true
unfolding all_differ
empty_differ zero = refl
empty_differ (suc n) = empty_differ n

pub empty_book-valid : (n tick : ℕ) → 1 ≤ n → n ≤ most_records → Valid (empty_book n tick)
unfolding empty_book sound_stop
empty_book-valid n tick h k = record {
  some_records = rw length-replicate h;
  few_records = rw length-replicate k;
  sound = all_replicate (λ s. sound_stop 0 tick s ≡ true) n vacant refl;
  differ = empty_differ n;
  free_vacant = rw (← vacant_indices_empty 1 n) (vacant_indices-rising 1 (replicate n vacant));
}

pub empty_book_fits : (n tick : ℕ) → tick < 2 ^ 64 → Fits (empty_book n tick)
unfolding empty_book
empty_book_fits n tick h = record { next = omega arith; tick = h; slots = all_replicate SlotFits n vacant tt }

pub empty_book_length : (n tick : ℕ) → length (empty_book n tick).slots ≡ n
unfolding empty_book
empty_book_length n tick = length-replicate n vacant

------------------------------------------------------------------------
-- Admission

-- the head of the free chain is the index of a vacant record, and the others are those of the vacant records after it
-- is taken
pub free_taken : (t : StopEntry) (b : Book) → Valid b → pending_count b.slots < length b.slots
    → Taken (head_or0 b.free) 1 (sort_rising (drop 1 b.free)) b.slots t
unfolding head_or0 sort_by
free_taken t b v room = go b.free v.free_vacant
  where
    go : (l : List ℕ) → sort_rising l ≡ vacant_indices 1 b.slots
        → Taken (head_or0 l) 1 (sort_rising (drop 1 l)) b.slots t
    go [] e = absurd (omega (arith, pending_count_vacant 1 b.slots, ap length e))
    go (i ∷ l) e = vacant_indices_taken i 1 (sort_rising l) b.slots t e

-- the place of the record that is taken
pub taken-place : (t : StopEntry) (b : Book)
    (r : Taken (head_or0 b.free) 1 (sort_rising (drop 1 b.free)) b.slots t) → head_or0 b.free - 1 ≡ r.place
taken-place t b r = omega (arith, r.is)

pub admitted-valid : (t : StopEntry) (b : Book) → Valid b → Admissible t b → Valid (admitted t b)
unfolding admitted
admitted-valid t b v a =
    let r = free_taken t b v a.room in
    with_slot-valid b (b.next + 1) (head_or0 b.free - 1) (held t) (drop 1 b.free) v (omega arith)
    (sound_of (b.next + 1) b.tick t
    (record {
      sequence = omega (arith, a.next_sequence);
      quantity = a.some_quantity;
      terms = a.terms;
      is_on_tick = a.is_on_tick;
    }))
    (all_set (SlotsDiffer (held t)) b.slots (head_or0 b.free - 1) vacant (slots_differ_vacant (held t))
    (all_map_both (λ s u e. new_slots_differ t b.next b.tick s (omega (arith, a.next_sequence)) u e) b.slots
    (lookup_none t.id b a.absent) v.sound))
    (rw (taken-place t b r) r.others)

pub admitted_fits : (t : StopEntry) (b : Book) → Fits b → StopFits t → b.next + 1 < 2 ^ 64 → Fits (admitted t b)
unfolding admitted
admitted_fits t b f g h = with_slot_fits b (b.next + 1) (head_or0 b.free - 1) (held t) (drop 1 b.free) f h g

pub admitted_length : (t : StopEntry) (b : Book) → length (admitted t b).slots ≡ length b.slots
unfolding admitted
admitted_length t b = length-set b.slots (head_or0 b.free - 1) (held t)

pub admitted_count : (t : StopEntry) (b : Book) → Valid b → pending_count b.slots < length b.slots
    → pending_count (admitted t b).slots ≡ suc (pending_count b.slots)
unfolding admitted pending_count
admitted_count t b v room =
    let r = free_taken t b v room in
    rw (taken-place t b r)
    (omega (arith, rw r.vacant_there at (pending_count_set b.slots r.place (held t) r.inside)))

-- where every question of an admission is answered yes
pub admission-formed : (kill : Bool) (trade : Option Price) (id : Id) (terms : StopTerms) (quantity : Quantity) (w : List ℕ)
    → first_no (admission_questions kill trade id terms quantity w) ≡ None → well_formed w ≡ true
unfolding admission_questions
admission-formed kill trade id terms quantity w e = (first_no_none (admission_questions kill trade id terms quantity w) e).0

pub admission_admissible : (kill : Bool) (trade : Option Price) (id : Id) (terms : StopTerms) (quantity : Quantity) (holder : Holder)
    (w : List ℕ)
    → first_no (admission_questions kill trade id terms quantity w) ≡ None
    → (well_formed w ≡ true) × Admissible (new_entry id terms quantity holder (book_of w)) (book_of w)
    × ((book_of w).next + 1 < 2 ^ 64)
unfolding admission_questions new_entry
admission_admissible kill trade id terms quantity holder w e =
    let q = first_no_none (admission_questions kill trade id terms quantity w) e in
    let store = q.1.1.1.1.1.1 in (
      q.0,
      record {
        next_sequence = refl;
        some_quantity = leb-true _ _ q.1.1.0;
        terms = consistent_of terms (leb-true _ _ q.1.1.1.0) q.1.1.1.1.0;
        is_on_tick = store.1.0;
        absent = is_pending_none id (book_of w) (not-true _ store.0);
        room = omega (arith, ltb-true, store.1.1.0);
      },
      omega (arith, ltb-true (book_of w).next (2 ^ 64 - 1) store.1.1.1.0),
    )

------------------------------------------------------------------------
-- Cancel

pub vacated-valid : (p : Pending) (b : Book) → Valid b → InBook b.slots p → Valid (vacated p.index b)
unfolding vacated sound_stop sort_by
vacated-valid p b v h =
    let e : 1 + (p.index - 1) ≡ p.index = omega (arith, h.from) in
    with_slot-valid b b.next
    (p.index - 1) vacant (p.index ∷ b.free) v (omega arith) refl
    (all_of (λ s. tt) (set b.slots (p.index - 1) vacant))
    (rw v.free_vacant (rw e at (vacant_indices-vacated 1 b.slots (p.index - 1) p.entry h.there)))

pub vacated_fits : (i : ℕ) (b : Book) → Fits b → Fits (vacated i b)
unfolding vacated
vacated_fits i b f = with_slot_fits b b.next (i - 1) vacant (i ∷ b.free) f f.next tt

pub vacated_length : (i : ℕ) (b : Book) → length (vacated i b).slots ≡ length b.slots
unfolding vacated
vacated_length i b = length-set b.slots (i - 1) vacant

pub vacated_count : (p : Pending) (b : Book) → InBook b.slots p
    → suc (pending_count (vacated p.index b).slots) ≡ pending_count b.slots
unfolding vacated pending_count
vacated_count p b h =
    omega (arith, rw h.there at (pending_count_set b.slots (p.index - 1) vacant (omega (arith, h.from, h.to))))
