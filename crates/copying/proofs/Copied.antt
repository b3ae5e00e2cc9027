-- A list copied element by element, and one over the start of another.
use Prim.Native.Nat.{ℕ, ◌+◌, ◌<◌, min}
use mathlib.Core.Path.{◌≡◌, sym, ap, ◌∙◌}
use mathlib.Core.List.{List, ◌++◌}
use native.Mathlib.Numerals.{add-one}
use native.Mathlib.Omega.{arith}
use borrow.Author.Tests.{leb-true, leb-false}
use borrow.Table.Steps.{cases}
use lib.Dec.{leb}
use lib.ListN.{length, get_or, take, drop, drop_of_length-le, set}
use lib.Seq.{take-suc, take-length, take-suc-set, take_all, take_at, length-take-le}

pub copied : (a t : List ℕ) (i : ℕ) → i < length a → i < length t → take i a ≡ take i t → take (i + 1) (set a i (get_or t i 0)) ≡ take (i + 1) t
copied a t i h k e = rw (add-one i, take-suc-set a i (get_or t i 0) h, take-suc t i 0 k, e)

pub copied_whole : (a t : List ℕ) (n i : ℕ) → i ≡ length a → length a ≡ n → take i a ≡ take i t → a ≡ take n t
copied_whole a t n i k l e =
    let f : take (length a) a ≡ take (length a) t = rw k at e in
    sym (take-length a) ∙ (f ∙ rw l)

------------------------------------------------------------------------
-- The start of a list copied over that of another, as many elements as both have

-- as many elements as there are, up to k, are the first k, and behind them stands what stands behind the first k
module _ {A : Type 0} (k : ℕ) (t : List A) where
  pub take_most : take (min k (length t)) t ≡ take k t
  take_most = cases (leb k (length t))
      (λ e. let h : min k (length t) ≡ k = omega (arith, leb-true k (length t) e) in rw h)
      (λ e.
      let h : min k (length t) ≡ length t = omega (arith, leb-false k (length t) e) in
      rw (h, take-length t) (sym (take_all k t (omega (arith, leb-false k (length t) e)))))

  pub drop_most : drop (min k (length t)) t ≡ drop k t
  drop_most = cases (leb k (length t))
      (λ e. let h : min k (length t) ≡ k = omega (arith, leb-true k (length t) e) in rw h)
      (λ e.
      let l = leb-false k (length t) e in
      drop_of_length-le t {i = min k (length t)} (omega (arith, l)) ∙ sym (drop_of_length-le t {i = k} (omega (arith, l))))

-- what was written is the part of t for which a has room
pub copied_start : (a t after : List ℕ) (many : ℕ) → many ≡ min (length a) (length t)
    → after ≡ take many t ++ drop many a
    → take many after ≡ take (length a) t
copied_start a t after many counted e =
    ap (take many) e ∙ take_at (take many t) (drop many a) many (length-take-le many t (omega arith))
    ∙ rw counted (take_most (length a) t)
