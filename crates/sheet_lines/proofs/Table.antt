-- Laws of the table: its rows group by group, and no row.
use Prim.Native.Nat.{ℕ, ◌+◌, ◌-◌, ◌≤◌, ◌<◌}
use mathlib.Core.Path.{◌≡◌, ap, ◌∙◌}
use mathlib.Core.List.{List, [], ◌++◌}
use native.Mathlib.Omega.{arith}
use lib.ListN.{length, get_or, get_or-append}
use lib.Seq.{get_or-append-add}
use Rattle.text_buffer.specs.Writing.{Put}
use Rattle.text_buffer.proofs.Writing.{put_none}
use Rattle.text_forms.specs.Forms.{form_from, form_of}

-- a row of the first rows, and of those behind them
pub row_here : (a b : List (List ℕ)) (k : ℕ) → k < length a → get_or (a ++ b) k [] ≡ get_or a k []
row_here a b k h = get_or-append a b [] k h

pub row-behind : (a b : List (List ℕ)) (k n : ℕ) → length a ≡ n → n ≤ k → get_or (a ++ b) k [] ≡ get_or b (k - n) []
row-behind a b k n e h =
    let place : k ≡ length a + (k - n) = omega arith in
    ap (λ (j : ℕ). get_or (a ++ b) j []) place ∙ get_or-append-add a b (k - n) []

-- no row makes no text
pub no_row : (row values l : List ℕ) (at : ℕ) → row ≡ [] → Put l at (form_of row values) l at
unfolding form_from
no_row row values l at e = rw e (put_none l at)
