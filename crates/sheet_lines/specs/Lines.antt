-- The printed lines.
use Rattle.std.specs.Prelude.{ℕ, List, [], ◌∷◌, ◌++◌, get_or}
use Rattle.text_forms.specs.Forms.{form_of}
use Rattle.sheet_lines.specs.Rows.{rows}

-- what the k-th row makes of values, with a line feed behind it; the line feed alone where there is no such row
unfoldable pub line_of : ℕ → List ℕ → List ℕ
line_of k values = form_of (get_or rows k []) values ++ (10 ∷ [])
