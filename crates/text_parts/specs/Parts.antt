-- The lines of a text by the places where they begin.
use Rattle.std.specs.Prelude.{ℕ, ◌+◌, ◌-◌, ◌≤◌, ◌<◌, List, [], ◌∷◌, ◌++◌, length, take, drop, get_or}

-- the text of rows
unfoldable pub joined : List (List ℕ) → List ℕ
joined [] = []
joined (row ∷ rows) = row ++ (10 ∷ joined rows)

-- where rows begin in a text from a place on, and where the last one ends
unfoldable pub starts : ℕ → List (List ℕ) → List ℕ
starts at [] = at ∷ []
starts at (row ∷ rows) = at ∷ starts (at + length row + 1) rows

-- the k-th line of a text: up to the byte before the place where the next one begins
unfoldable pub line_in : List ℕ → List ℕ → ℕ → List ℕ
line_in text starts k = take ((get_or starts (k + 1) 0 - 1) - get_or starts k 0) (drop (get_or starts k 0) text)

-- the k-th line and its line feed lie within the text
pub record Begins (text starts : List ℕ) (k : ℕ) : Type 0 where
  pub known : k + 1 < length starts
  pub order : get_or starts k 0 < get_or starts (k + 1) 0
  pub within : get_or starts (k + 1) 0 ≤ length text
