-- Forms: text in which '%' and a letter stand for a piece made of the next values. A '%' at the end stands for nothing.
use Rattle.std.specs.Prelude.{ℕ, Bool, true, false, cond, List, [], ◌∷◌, ◌++◌, eqb, drop}
use Rattle.text_letters.specs.Letters.{takes, piece_of}

-- what a byte shows: itself, and nothing where it is a '%' (37)
abbrev pub shown : ℕ → List ℕ
shown b = cond (eqb b 37) [] (b ∷ [])

-- a form from a byte on; `marked` says that the byte before was a '%'
unfoldable pub form_from : Bool → List ℕ → List ℕ → List ℕ
form_from marked [] values = []
form_from false (b ∷ form) values = shown b ++ form_from (eqb b 37) form values
form_from true (letter ∷ form) values = piece_of letter values ++ form_from false form (drop (takes letter) values)

-- what a form makes of values
abbrev pub form_of : List ℕ → List ℕ → List ℕ
form_of form values = form_from false form values
