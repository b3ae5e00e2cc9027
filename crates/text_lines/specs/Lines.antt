-- The lines of a text. A line feed ends a line and is no part of it; a last line needs none, and behind a last line feed there is no further line.
use Rattle.std.specs.Prelude.{ℕ, ◌-◌, cond, List, [], ◌∷◌, eqb, take, drop, get_or}

-- a byte before the first line; a line by itself where there is none
unfoldable pub onto : ℕ → List (List ℕ) → List (List ℕ)
onto b [] = (b ∷ []) ∷ []
onto b (line ∷ lines) = (b ∷ line) ∷ lines

-- the lines of a text
unfoldable pub lines_of : List ℕ → List (List ℕ)
lines_of [] = []
lines_of (b ∷ text) = cond (eqb b 10) ([] ∷ lines_of text) (onto b (lines_of text))

-- the bytes between two places
abbrev pub between : List ℕ → ℕ → ℕ → List ℕ
between text start end = take (end - start) (drop start text)

-- the k-th line, counted from 0; the empty one where there is none
unfoldable pub line_at : ℕ → List ℕ → List ℕ
line_at k text = get_or (lines_of text) k []
