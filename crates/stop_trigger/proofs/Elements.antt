-- A list of known length is the list of its elements, each named by its index.
use Prim.Native.Nat.{ℕ, zero, suc, ◌+◌}
use mathlib.Core.Path.{◌≡◌, sym, ap, ◌∙◌}
use mathlib.Core.List.{List, [], ◌∷◌}
use native.Mathlib.Omega.{arith}
use lib.ListN.{length, get_or, drop, drop_of_length-le}
use lib.Seq.{drop-cons}

-- the n elements from i on
abbrev pub elements : List ℕ → ℕ → ℕ → List ℕ
elements l i zero = []
elements l i (suc n) = get_or l i 0 ∷ elements l (suc i) n

pub elements_drop : (l : List ℕ) (i n : ℕ) → length l ≡ i + n → elements l i n ≡ drop i l
elements_drop l i zero e = sym (drop_of_length-le l {i = i} (omega arith))
elements_drop l i (suc n) e =
    ap (λ (r : List ℕ). get_or l i 0 ∷ r) (elements_drop l (suc i) n (omega arith)) ∙ sym (drop-cons l i 0 (omega arith))
