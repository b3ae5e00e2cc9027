-- Laws of forms: a byte, a mark, a piece, the end.
use Prim.Native.Nat.{ℕ, ◌+◌, ◌≤◌, ◌<◌}
use mathlib.Core.Path.{◌≡◌}
use mathlib.Core.Bool.{Bool, true, false}
use mathlib.Core.List.{List, [], ◌∷◌, ◌++◌}
use native.Mathlib.Numerals.{add-one}
use borrow.Author.Tests.{eq-eqb, ne_eqb}
use lib.ListN.{length, drop, get_or, drop_of_length-le}
use lib.Seq.{drop-cons, drop-drop}
use Rattle.text_letters.specs.Letters.{takes, piece_of}
use Rattle.text_forms.specs.Forms.{form_from}

pub form_byte : (form values : List ℕ) (i : ℕ) → i < length form → (get_or form i 0 ≡ 37 → ⊥) → form_from false (drop i form) values ≡ get_or form i 0 ∷ form_from false (drop (i + 1) form) values
unfolding form_from
form_byte form values i h ne = rw (add-one, drop-cons form i 0 h, ne_eqb _ _ ne)

pub form_mark : (form values : List ℕ) (i : ℕ) → i < length form → get_or form i 0 ≡ 37 → form_from false (drop i form) values ≡ form_from true (drop (i + 1) form) values
unfolding form_from
form_mark form values i h is = rw (add-one, drop-cons form i 0 h, eq-eqb _ _ is)

pub form_piece : (form values : List ℕ) (i v : ℕ) → i < length form
    → form_from true (drop i form) (drop v values) ≡ piece_of (get_or form i 0) (drop v values) ++ form_from false (drop (i + 1) form) (drop (v + takes (get_or form i 0)) values)
unfolding form_from
form_piece form values i v h = rw (add-one, drop-cons form i 0 h, drop-drop (takes (get_or form i 0)) v values)

pub form_end : (marked : Bool) (form values : List ℕ) (i : ℕ) → length form ≤ i → form_from marked (drop i form) values ≡ []
unfolding form_from
form_end marked form values i h = rw (drop_of_length-le form {i = i} h)
