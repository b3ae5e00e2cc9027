-- The free chain of a valid book: its records are vacant and in range, and none is there twice.
use Prim.Native.Nat.{ℕ, suc, ◌+◌, ◌-◌, ◌≤◌, ◌<◌}
use mathlib.Core.Path.{◌≡◌, refl, sym, ap}
use mathlib.Core.Logic.{◌≢◌}
use mathlib.Core.List.{List, [], ◌∷◌}
use native.Mathlib.Omega.{arith}
use lib.Dec.{ltb}
use lib.ListN.{length, get_or}
use Rattle.book.proofs.Lists.{all_map}
use Rattle.book.proofs.Sort.{Distinct, sort_by_parts, sort_by_length, sort_by_pairwise_parts}
use Rattle.book.specs.Valid.{Valid}
use Rattle.book.specs.Book.{Slot, vacant, held, Book, pending_count}
use Rattle.book.specs.Lists.{All}
use Rattle.book.specs.Words.{vacant_indices}

------------------------------------------------------------------------
-- The vacant records

-- record j, counted from i, is vacant
pub record VacantFrom (i : ℕ) (ss : List Slot) (j : ℕ) : Type 0 where
  pub low : i ≤ j
  pub high : j < i + length ss
  pub is_vacant : get_or ss (j - i) vacant ≡ vacant

vacant_from_next : (i : ℕ) (s : Slot) (ss : List Slot) (j : ℕ) → VacantFrom (suc i) ss j → VacantFrom i (s ∷ ss) j
vacant_from_next i s ss j h =
    let e : j - i ≡ suc (j - suc i) = omega arith in
    record { low = omega arith; high = omega arith; is_vacant = rw e h.is_vacant }

pub vacant_indices_vacant : (i : ℕ) (ss : List Slot) → All (VacantFrom i ss) (vacant_indices i ss)
unfolding vacant_indices
vacant_indices_vacant i [] = tt
vacant_indices_vacant i (vacant ∷ ss) =
    let z : i - i ≡ 0 = omega arith in (
      record { low = omega arith; high = omega arith; is_vacant = rw z refl },
      all_map {Q = VacantFrom i (vacant ∷ ss)} (vacant_from_next i vacant ss) (vacant_indices (suc i) ss)
          (vacant_indices_vacant (suc i) ss),
    )
vacant_indices_vacant i (held t ∷ ss) =
    all_map {Q = VacantFrom i (held t ∷ ss)} (vacant_from_next i (held t) ss) (vacant_indices (suc i) ss)
    (vacant_indices_vacant (suc i) ss)

pub vacant_indices_distinct : (i : ℕ) (ss : List Slot) → Distinct (vacant_indices i ss)
unfolding vacant_indices
vacant_indices_distinct i [] = tt
vacant_indices_distinct i (vacant ∷ ss) = (
  all_map {P = VacantFrom (suc i) ss} {Q = λ j. i ≢ j} (λ j h. omega arith) (vacant_indices (suc i) ss)
      (vacant_indices_vacant (suc i) ss),
  vacant_indices_distinct (suc i) ss,
)
vacant_indices_distinct i (held t ∷ ss) = vacant_indices_distinct (suc i) ss

-- each record is pending or vacant
pub pending_count_vacant : (i : ℕ) (ss : List Slot) → pending_count ss + length (vacant_indices i ss) ≡ length ss
unfolding pending_count vacant_indices
pending_count_vacant i [] = refl
pending_count_vacant i (vacant ∷ ss) = omega (arith, pending_count_vacant (suc i) ss)
pending_count_vacant i (held t ∷ ss) = omega (arith, pending_count_vacant (suc i) ss)

------------------------------------------------------------------------
-- The free chain

module _ (b : Book) (v : Valid b) where
  pub free_all_vacant : All (VacantFrom 1 b.slots) b.free
  free_all_vacant = sort_by_parts ltb (VacantFrom 1 b.slots) b.free
      (rw v.free_vacant (vacant_indices_vacant 1 b.slots))

  pub free_distinct : Distinct b.free
  free_distinct = sort_by_pairwise_parts ltb (λ i j. i ≢ j) (λ i j h e. h (sym e)) b.free
      (rw v.free_vacant (vacant_indices_distinct 1 b.slots))

  pub free_count : pending_count b.slots + length b.free ≡ length b.slots
  free_count = omega (arith, pending_count_vacant 1 b.slots, sort_by_length ltb b.free, ap length v.free_vacant)
