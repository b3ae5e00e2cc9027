-- Entries written into a list, one run after another, and from its start.
use Prim.Native.Nat.{ℕ, zero, suc, ◌+◌, ◌≤◌, ◌<◌}
use native.Mathlib.Omega.{arith}
use mathlib.Core.Path.{◌≡◌, refl, sym, ap, ◌∙◌}
use mathlib.Core.List.{List, [], ◌∷◌, ◌++◌, map}
use lib.ListN.{length, get_or, set, length-set}
use lib.Seq.{get_or-set_same, set-set, set_comm, sets, sets-eq}
use Rattle.book.proofs.Lists.{sets_append, get_d_sets_before}
use Rattle.book.specs.Calls.{written}

module _ {A : Type 0} where
  -- after a run that ends at m
  pub sets_on : (xs ys l : List A) (at m : ℕ) → m ≡ at + length xs → sets (sets l at xs) m ys ≡ sets l at (xs ++ ys)
  sets_on xs ys l at m e = rw e (sets_append xs ys l at)

  pub sets-written : (xs l : List A) → length xs ≤ length l → sets l 0 xs ≡ written xs l
  unfolding written
  sets-written xs l h = let e : 0 + length xs ≡ length xs = omega arith in rw e at (sets-eq xs l 0 (omega arith))

  -- a store before a run, and a read before it
  set_sets : (xs l : List A) (i j : ℕ) (a : A) → i < j → set (sets l j xs) i a ≡ sets (set l i a) j xs
  set_sets [] l i j a h = refl
  set_sets (x ∷ xs) l i j a h =
      set_sets xs (set l j x) i (suc j) a (omega arith)
      ∙ ap (λ m. sets m (suc j) xs) (set_comm l j i x a (λ e. omega arith))

  -- a run over another of the same length
  pub sets_over : (xs ys l : List A) (at : ℕ) → length xs ≡ length ys → sets (sets l at xs) at ys ≡ sets l at ys
  sets_over [] [] l at e = refl
  sets_over [] (y ∷ ys) l at e = absurd (omega arith)
  sets_over (x ∷ xs) [] l at e = absurd (omega arith)
  sets_over (x ∷ xs) (y ∷ ys) l at e =
      ap (λ m. sets m (suc at) ys)
      (set_sets xs (set l at x) at (suc at) y (omega arith) ∙ ap (λ m. sets m (suc at) xs) (set-set l at x y))
      ∙ sets_over xs ys (set l at y) (suc at) (omega arith)

------------------------------------------------------------------------
-- Entries changed one after the other

module _ {A : Type 0} (d : A) (change : A → A) where
  -- k entries from a place on, each to its change
  unfoldable pub changed : List A → ℕ → ℕ → List A
  changed l at zero = l
  changed l at (suc k) = changed (set l at (change (get_or l at d))) (suc at) k

  -- of a run: those of the run
  pub changed_sets : {B : Type 0} (words after : B → A) → ((x : B) → change (words x) ≡ after x)
      → (xs : List B) (l : List A) (at : ℕ)
      → at + length xs ≤ length l
      → changed (sets l at (map words xs)) at (length xs) ≡ sets (sets l at (map words xs)) at (map after xs)
  unfolding changed
  changed_sets words after h [] l at few = refl
  changed_sets words after h (x ∷ xs) l at few =
      let run = sets (set l at (words x)) (suc at) (map words xs) in
      let first : get_or run at d ≡ words x =
      get_d_sets_before (map words xs) (set l at (words x)) at (suc at) d (omega arith)
      ∙ get_or-set_same l at (words x) d (omega arith) in
      let next = set_sets (map words xs) (set l at (words x)) at (suc at) (after x) (omega arith) in
      ap (λ m. changed m (suc at) (length xs)) (ap (set run at) (ap change first ∙ h x) ∙ next)
      ∙ changed_sets words after h xs (set (set l at (words x)) at (after x)) (suc at)
      (rw (length-set, length-set) (omega arith))
      ∙ sym (ap (λ m. sets m (suc at) (map after xs)) next)
