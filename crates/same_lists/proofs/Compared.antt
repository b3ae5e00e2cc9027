-- Two lists compared from their start, element by element.
use Prim.Native.Nat.{ℕ, ◌+◌, ◌≤◌, ◌<◌}
use mathlib.Core.Path.{◌≡◌, sym, ◌∙◌}
use mathlib.Core.Bool.{Bool, true, false}
use mathlib.Core.List.{List, []}
use native.Mathlib.Omega.{arith}
use borrow.Author.Count.{below_more}
use borrow.Author.Rules.{get_or_read}
use borrow.Author.Tests.{ne_eqb}
use lib.Dec.{eqb}
use lib.ListN.{length, get_or}
use Rattle.book.proofs.Lists.{same_by-place, same_by_places, same_list_by}
use Rattle.book.specs.Lists.{same_by, same_list}

module _ {A : Type 0} (same : A → A → Bool) (d : A) where
  -- the lists are of one length, and the first i elements the same
  abbrev pub Compared : List A → List A → ℕ → Type 0
  Compared a b i = (i ≤ length a) × (length a ≡ length b)
      × ((k : ℕ) → k < i → same (get_or a k d) (get_or b k d) ≡ true)

  pub compared_none : (a b : List A) → length a ≡ length b → Compared a b 0
  compared_none a b e = (omega arith, e, λ k h. absurd (omega (arith, h)))

  -- of two elements that were read at i, at any default
  pub same_read : (a b : List A) (i : ℕ) {x y : A} {v : Bool} → same x y ≡ v → i < length a → i < length b
      → x ≡ get_or a i x → y ≡ get_or b i y → same (get_or a i d) (get_or b i d) ≡ v
  same_read a b i e k l p q = rw (← get_or_read a i _ k p d, ← get_or_read b i _ l q d) e

  module _ (a b : List A) (i : ℕ) (h : Compared a b i) where
    pub compared_more : i < length a → same (get_or a i d) (get_or b i d) ≡ true → Compared a b (i + 1)
    compared_more k e = (omega (arith, k), h.1, below_more _ i h.2 e)

    pub compared_all : length a ≤ i → true ≡ same_by same a b
    compared_all l = sym (same_by_places same a b d h.1 (λ k m. h.2 k (omega (arith, l, m))))

-- lists of words that differ at a place
pub words_differ : (a b : List ℕ) (i : ℕ) → (get_or a i 0 ≡ get_or b i 0 → ⊥) → i < length a → length a ≡ length b
    → false ≡ same_list a b
words_differ a b i n k e = sym (same_list_by a b ∙ same_by-place eqb a b i 0 k (omega arith) (ne_eqb _ _ n))

-- lists of entries, where those at a place differ
pub entries_differ : (a b : List (List ℕ)) (i : ℕ) (x y : List ℕ) → same_list x y ≡ false → x ≡ get_or a i x
    → y ≡ get_or b i y → i < length a → length a ≡ length b → false ≡ same_by same_list a b
entries_differ a b i x y n p q k e =
    let l : i < length b = omega arith in
    sym (same_by-place same_list a b i [] k l (same_read same_list [] a b i n k l p q))
