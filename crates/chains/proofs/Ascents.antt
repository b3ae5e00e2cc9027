-- Lists that ascend in a rank: a sort does, and one that has no more and no fewer elements than another is that one.
use Prim.Native.Nat.{ℕ, ◌≤◌, ◌<◌}
use native.Mathlib.Omega.{arith}
use mathlib.Core.Path.{◌≡◌, refl, sym, ap, ◌∙◌}
use mathlib.Core.Logic.{◌⊎◌, inl, inr, ◌≢◌}
use mathlib.Core.Bool.{Bool, true, false, cond}
use mathlib.Core.List.{List, [], ◌∷◌}
use borrow.Author.Tests.{ltb-true, ltb-false}
use lib.ListN.{length}
use Rattle.book.proofs.Sort.{Pairwise, sort_by_all, sort_by_parts, insert_by_all}
use Rattle.book.proofs.Lists.{all_map, all_map_both}
use lib.Dec.{ltb}
use Rattle.chains.proofs.Members.{has_none, has_cases, all-has}
use Rattle.chains.specs.Indices.{ranks_earlier, insert_ranked, sort_ranked, RanksDiffer}
use Rattle.book.specs.Lists.{sort_by, insert_by, All}

-- each ranks below all that come after it
abbrev pub Ascending : (ℕ → ℕ) → List ℕ → Type 0
Ascending rk [] = Unit {0}
Ascending rk (i ∷ l) = All (λ j. rk i < rk j) l × Ascending rk l

-- two rank differently
abbrev pub Apart : (ℕ → ℕ) → ℕ → ℕ → Type 0
Apart rk i j = rk i ≢ rk j

-- what holds of every element of the one list holds of every element of the other
abbrev pub Within : List ℕ → List ℕ → Type 1
Within l m = (P : ℕ → Type 0) → All P m → All P l

------------------------------------------------------------------------
-- A sort has the elements of its list

module _ (rk : ℕ → ℕ) where
  pub sort_ranked-within : (l : List ℕ) → Within (sort_ranked rk l) l
  sort_ranked-within l P h = sort_by_all (ranks_earlier rk) P l h

  pub within-sort_ranked : (l : List ℕ) → Within l (sort_ranked rk l)
  within-sort_ranked l P h = sort_by_parts (ranks_earlier rk) P l h

  ------------------------------------------------------------------------
  -- and ascends

  insert_ranked_ascending : (i : ℕ) (l : List ℕ) → All (Apart rk i) l → Ascending rk l
      → Ascending rk (insert_ranked rk i l)
  unfolding insert_by
  insert_ranked_ascending i [] n a = (tt, tt)
  insert_ranked_ascending i (j ∷ l) n a = go (ltb (rk i) (rk j)) refl (insert_ranked_ascending i l n.1 a.1)
    where
      go : (t : Bool) → ltb (rk i) (rk j) ≡ t → Ascending rk (insert_ranked rk i l)
          → Ascending rk (cond t (i ∷ j ∷ l) (j ∷ insert_ranked rk i l))
      go true e rest =
          let h = ltb-true (rk i) (rk j) e in
          ((h, all_map {P = λ x. rk j < rk x} {Q = λ x. rk i < rk x} (λ x u. omega arith) l a.0), a)
      go false e rest =
          let h = ltb-false (rk i) (rk j) e in
          let ne = n.0 in
          (insert_by_all (ranks_earlier rk) (λ x. rk j < rk x) i l (omega arith) a.0, rest)

  pub sort_ranked_ascending : (l : List ℕ) → Pairwise (Apart rk) l → Ascending rk (sort_ranked rk l)
  unfolding sort_by
  sort_ranked_ascending [] d = tt
  sort_ranked_ascending (i ∷ l) d =
      insert_ranked_ascending i (sort_ranked rk l) (sort_ranked-within l (Apart rk i) d.0)
      (sort_ranked_ascending l d.1)

  ------------------------------------------------------------------------
  -- Two lists that ascend

  -- what is not j, of a list within j ∷ m, is within m
  without : (j : ℕ) (l m : List ℕ) → All (λ x. rk j < rk x) l → Within l (j ∷ m) → Within l m
  without j l m a s P h =
      all_map_both {P = λ x. rk j < rk x} {Q = λ x. (x ≡ j) ⊎ P x} {R = P} drop_first l a
      (s (λ x. (x ≡ j) ⊎ P x) (inl refl, all_map {P = P} {Q = λ x. (x ≡ j) ⊎ P x} (λ x p. inr p) m h))
    where
      drop_first : (x : ℕ) → rk j < rk x → (x ≡ j) ⊎ P x → P x
      drop_first x u (inl e) = absurd (omega (arith, ap rk e))
      drop_first x u (inr p) = p

  -- the first of l is the first of j ∷ m, or ranks above it
  first_of : (i j : ℕ) (l m : List ℕ) → Ascending rk (j ∷ m) → Within (i ∷ l) (j ∷ m) → (i ≡ j) ⊎ (rk j < rk i)
  first_of i j l m a s =
      (s (λ x. (x ≡ j) ⊎ (rk j < rk x))
      (inl refl, all_map {P = λ x. rk j < rk x} {Q = λ x. (x ≡ j) ⊎ (rk j < rk x)} (λ x u. inr u) m a.0)).0

  pub record AsMany (l m : List ℕ) : Type 0 where
    pub short : length l ≤ length m
    pub same : length l ≡ length m → l ≡ m

  -- the one within the other is no longer, and if it is as long, the same
  pub ascending-within : (l m : List ℕ) → Ascending rk l → Ascending rk m → Within l m → AsMany l m
  ascending-within [] [] a b s = record { short = omega arith; same = λ e. refl }
  ascending-within [] (j ∷ m) a b s = record { short = omega arith; same = λ e. absurd (omega arith) }
  ascending-within (i ∷ l) [] a b s = absurd (s (λ x. ⊥) tt).0
  ascending-within (i ∷ l) (j ∷ m) a b s = go (first_of i j l m b s)
      (λ above. ascending-within (i ∷ l) m a b.1 (without j (i ∷ l) m above s))
      (λ above. ascending-within l m a.1 b.1 (without j l m above (λ P h. (s P h).1)))
    where
      go : (i ≡ j) ⊎ (rk j < rk i) → (All (λ x. rk j < rk x) (i ∷ l) → AsMany (i ∷ l) m)
          → (All (λ x. rk j < rk x) l → AsMany l m) → AsMany (i ∷ l) (j ∷ m)
      go (inl e) later here =
          let r = here (rw e at a.0) in
          record { short = omega (arith, r.short); same = λ q. let f : l ≡ m = r.same (omega arith) in cc }
      go (inr u) later here =
          let r = later (u, all_map {P = λ x. rk i < rk x} {Q = λ x. rk j < rk x} (λ x v. omega arith) l a.0) in
          record { short = omega (arith, r.short); same = λ q. absurd (omega (arith, r.short)) }

-- ranks that agree on a list
pub ascending_alike : (rk rank : ℕ → ℕ) (l : List ℕ) → All (λ j. rk j ≡ rank j) l → Ascending rk l → Ascending rank l
ascending_alike rk rank [] e a = tt
ascending_alike rk rank (i ∷ l) e a = (
  all_map_both {P = λ j. rk j ≡ rank j} {Q = λ j. rk i < rk j} {R = λ j. rank i < rank j}
      (λ j f u. omega (arith, e.0)) l e.1 a.0,
  ascending_alike rk rank l e.1 a.1,
)

------------------------------------------------------------------------
-- Rising order is that of the rank of a number itself

abbrev pub itself : ℕ → ℕ
itself i = i

-- ranks that differ one after another differ
pub differ_members : (rk : ℕ → ℕ) (l : List ℕ) → Pairwise (Apart rk) l → RanksDiffer rk l
differ_members rk [] d i j hi hj e = absurd (has_none i hi)
differ_members rk (k ∷ l) d i j hi hj e =
    has_cases i k l hi
    (λ p. has_cases j k l hj (λ q. sym p ∙ q) (λ t. absurd (all-has (Apart rk k) l d.0 j t (rw p e))))
    (λ s. has_cases j k l hj (λ q. absurd (all-has (Apart rk k) l d.0 i s (rw q (sym e))))
    (λ t. differ_members rk l d.1 i j s t e))
