-- A record of a store of n records whose words are all in the slice.
use Rattle.std.specs.Prelude.{ℕ, ◌≤◌, List, length}
use Rattle.book.specs.Sizes.{most_records, store_length}

pub record Room (n : ℕ) (w : List ℕ) : Type 0 where
  pub few : n ≤ most_records
  pub room : store_length n ≤ length w

pub record Record (n : ℕ) (w : List ℕ) (i : ℕ) : Type 0 where
  pub least : 1 ≤ i
  pub most : i ≤ n
  pub inside : Room n w
