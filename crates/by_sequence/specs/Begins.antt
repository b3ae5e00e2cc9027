-- Words that begin with a list.
use Rattle.std.specs.Prelude.{ℕ, ◌≡◌, List, length, take}

-- the words o begin with the k elements of l
pub record Begins (o : List ℕ) (k : ℕ) (l : List ℕ) : Type 0 where
  pub count : length l ≡ k
  pub places : take k o ≡ l
