-- Laws of the places of a record's words.
use Prim.Native.Nat.{ℕ, ◌+◌, ◌-◌, ◌≤◌, ◌<◌}
use mathlib.Core.Path.{◌≡◌}
use native.Mathlib.Omega.{arith}
use Rattle.book.specs.Words.{cell}
use Rattle.book.specs.Sizes.{header_length, record_length, store_length}

-- behind the header
pub cell_least : (i k : ℕ) → header_length ≤ cell i k
unfolding cell
cell_least i k = omega arith

-- among the words of n records
pub cell_below : (n i k : ℕ) → 1 ≤ i → i ≤ n → k < record_length → cell i k < store_length n
unfolding cell
cell_below n i k low high l = omega arith

pub cell_end : (n i : ℕ) → 1 ≤ i → i ≤ n → cell i 0 + record_length ≤ store_length n
unfolding cell
cell_end n i low high = omega arith

pub cell_plus : (i k : ℕ) → cell i k ≡ cell i 0 + k
unfolding cell
cell_plus i k = omega arith

-- the place tells the record and the word
pub cell_injective : (i j k m : ℕ) → 1 ≤ i → 1 ≤ j → k < record_length → m < record_length → cell i k ≡ cell j m
    → (i ≡ j) × (k ≡ m)
unfolding cell
cell_injective i j k m hi hj hk hm e = omega arith
