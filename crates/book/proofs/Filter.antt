-- Laws of the elements that pass a test.
use Prim.Native.Nat.{◌≤◌}
use mathlib.Core.Path.{◌≡◌, refl}
use mathlib.Core.Bool.{Bool}
use mathlib.Core.List.{List, [], ◌∷◌, map}
use native.Mathlib.Omega.{arith}
use borrow.Table.Steps.{cases}
use lib.ListN.{length}
use Rattle.book.proofs.Sort.{Pairwise}
use Rattle.book.specs.Lists.{All, filter}

module _ {A : Type 0} (test : A → Bool) where
  pub filter_all : (P : A → Type 0) (l : List A) → All P l → All P (filter test l)
  unfolding filter
  filter_all P [] h = h
  filter_all P (x ∷ l) h = cases (test x) (λ e. rw e (h.0, filter_all P l h.1)) (λ e. rw e (filter_all P l h.1))

  pub filter_pairwise : (R : A → A → Type 0) (l : List A) → Pairwise R l → Pairwise R (filter test l)
  unfolding filter
  filter_pairwise R [] h = h
  filter_pairwise R (x ∷ l) h = cases (test x)
      (λ e. rw e (filter_all (R x) l h.0, filter_pairwise R l h.1))
      (λ e. rw e (filter_pairwise R l h.1))

  pub filter_length : (l : List A) → length (filter test l) ≤ length l
  unfolding filter
  filter_length [] = omega arith
  filter_length (x ∷ l) =
      let rest = filter_length l in cases (test x) (λ e. rw e (omega arith)) (λ e. rw e (omega arith))

-- of what a function makes of the elements, where the two tests agree
pub filter_map : {A B : Type 0} (f : A → B) (testA : A → Bool) (testB : B → Bool) (l : List A)
    → All (λ x. testB (f x) ≡ testA x) l
    → filter testB (map f l) ≡ map f (filter testA l)
unfolding filter
filter_map f testA testB [] h = refl
filter_map f testA testB (x ∷ l) h =
    let rest = filter_map f testA testB l h.1 in
    rw h.0 (cases (testA x) (λ e. rw (e, rest)) (λ e. rw (e, rest)))
