-- Lists in the order of a number of each element, the key: the sort by it rises, and a rising list is known by what it
-- holds.
use Prim.Native.Nat.{ℕ, ◌<◌}
use mathlib.Core.Path.{◌≡◌, refl, sym, ap₂, ◌∙◌}
use mathlib.Core.Logic.{◌≢◌, ◌⊎◌, inl, inr}
use mathlib.Core.Bool.{Bool}
use mathlib.Core.List.{List, [], ◌∷◌}
use native.Mathlib.Omega.{arith}
use borrow.Author.Tests.{ltb-true, ltb-false}
use borrow.Table.Steps.{cases}
use lib.Dec.{ltb}
use Rattle.book.proofs.Lists.{all_map, all_map_both}
use Rattle.book.proofs.Sort.{Pairwise, insert_by_all, sort_by_all}
use Rattle.book.specs.Lists.{All, insert_by, sort_by}

module _ {A : Type 0} (key : A → ℕ) where
  abbrev pub by_key : A → A → Bool
  by_key x y = ltb (key x) (key y)

  -- strictly
  abbrev pub Rises : List A → Type 0
  Rises l = Pairwise (λ x y. key x < key y) l

  abbrev KeysDiffer : List A → Type 0
  KeysDiffer l = Pairwise (λ x y. key x ≢ key y) l

  insert_by_rises : (x : A) (l : List A) → All (λ y. key x ≢ key y) l → Rises l → Rises (insert_by by_key x l)
  unfolding insert_by
  insert_by_rises x [] d r = (tt, tt)
  insert_by_rises x (y ∷ l) d r = cases (ltb (key x) (key y))
      (λ e. let h = ltb-true (key x) (key y) e in rw e ((h, all_map (λ z q. omega arith) l r.0), r))
      (λ e.
      let h : key y < key x = omega (arith, ltb-false (key x) (key y) e, d.0) in
      rw e (insert_by_all by_key (λ z. key y < key z) x l h r.0, insert_by_rises x l d.1 r.1))

  pub sort_by_rises : (l : List A) → KeysDiffer l → Rises (sort_by by_key l)
  unfolding sort_by
  sort_by_rises [] d = tt
  sort_by_rises (x ∷ l) d =
      insert_by_rises x (sort_by by_key l) (sort_by_all by_key (λ y. key x ≢ key y) l d.0) (sort_by_rises l d.1)

  ------------------------------------------------------------------------
  -- Two rising lists that hold the same are equal

  first_same : (x y : A) → (y ≡ x) ⊎ (key x < key y) → (x ≡ y) ⊎ (key y < key x) → x ≡ y
  first_same x y (inl e) q = sym e
  first_same x y (inr h) (inl e) = e
  first_same x y (inr h) (inr k) = absurd (omega arith)

  -- of what follows an element, none is that element
  behind_first : (P : A → Type 0) (x y : A) (m : List A) → x ≡ y → All (λ z. key y < key z) m → All (λ z. (z ≡ x) ⊎ P z) m
      → All P m
  behind_first P x y m e r h = all_map_both {R = P} pick m r h
    where
      pick : (z : A) → key y < key z → (z ≡ x) ⊎ P z → P z
      pick z k (inl q) = let same : z ≡ y = q ∙ e in absurd (omega (arith, rw same at k))
      pick z k (inr p) = p

  pub rises_unique : (l m : List A) → Rises l → Rises m → ((P : A → Type 0) → All P l → All P m)
      → ((P : A → Type 0) → All P m → All P l) → l ≡ m
  rises_unique [] [] r s f g = refl
  rises_unique [] (y ∷ m) r s f g = absurd (f (λ z. ⊥) tt).0
  rises_unique (x ∷ l) [] r s f g = absurd (g (λ z. ⊥) tt).0
  rises_unique (x ∷ l) (y ∷ m) r s f g =
      let First : A → A → Type 0 = λ a z. (z ≡ a) ⊎ (key a < key z) in
      let same : x ≡ y = first_same x y (f (First x) (inl refl, all_map (λ z h. inr h) l r.0)).0
      (g (First y) (inl refl, all_map (λ z h. inr h) m s.0)).0 in
      ap₂ (λ (a : A) (t : List A). a ∷ t) same
      (rises_unique l m r.1 s.1
      (λ P p. behind_first P x y m same s.0 (f (λ z. (z ≡ x) ⊎ P z) (inl refl, all_map (λ z q. inr q) l p)).1)
      (λ P p. behind_first P y x l (sym same) r.0 (g (λ z. (z ≡ y) ⊎ P z) (inl refl, all_map (λ z q. inr q) m p)).1))
