-- Laws of the members of a list of indices: membership, removal of one, and lists without repeats.
use Prim.Native.Nat.{ℕ, zero, suc, ◌≤◌}
use mathlib.Core.Path.{◌≡◌, refl, sym, ap, ◌∙◌}
use mathlib.Core.Logic.{◌≢◌}
use mathlib.Core.List.{List, [], ◌∷◌, ◌++◌}
use native.Mathlib.Omega.{arith}
use borrow.Author.Tests.{eqb-true, eqb-false, eq-eqb, ne_eqb}
use borrow.Table.Steps.{cases}
use lib.Dec.{T, eqb}
use lib.ListN.{length}
use Rattle.book.proofs.Sort.{Distinct}
use Rattle.book.specs.Lists.{All}
use Rattle.chains.specs.Indices.{remove, has}

------------------------------------------------------------------------
-- Membership

pub has_none : (i : ℕ) → T (has i []) → ⊥
unfolding has
has_none i h = h

pub has_here : (i : ℕ) (l : List ℕ) → T (has i (i ∷ l))
unfolding has
has_here i l = rw (eq-eqb i i refl) tt

pub has_there : (i j : ℕ) (l : List ℕ) → T (has i l) → T (has i (j ∷ l))
unfolding has
has_there i j l h = cases (eqb j i) (λ e. rw e tt) (λ e. rw e h)

-- a member of j ∷ l is j, or one of l
pub has_cases : {X : Type 0} (i j : ℕ) (l : List ℕ) → T (has i (j ∷ l)) → (j ≡ i → X) → (T (has i l) → X) → X
unfolding has
has_cases i j l h f g = cases (eqb j i) (λ e. f (eqb-true j i e)) (λ e. g (rw e at h))

pub has_rest : (i j : ℕ) (l : List ℕ) → j ≢ i → T (has i (j ∷ l)) → T (has i l)
has_rest i j l n h = has_cases i j l h (λ e. absurd (n e)) (λ t. t)

-- what holds of every member, said of each, and what holds of each
module _ (P : ℕ → Type 0) where
  pub has_all : (l : List ℕ) → ((j : ℕ) → T (has j l) → P j) → All P l
  has_all [] h = tt
  has_all (i ∷ l) h = (h i (has_here i l), has_all l (λ j t. h j (has_there j i l t)))

  pub all-has : (l : List ℕ) → All P l → (j : ℕ) → T (has j l) → P j
  all-has [] a j h = absurd (has_none j h)
  all-has (i ∷ l) a j h = has_cases j i l h (λ e. rw (← e) a.0) (all-has l a.1 j)

------------------------------------------------------------------------
-- Removal

pub remove_here : (i : ℕ) (l : List ℕ) → remove i (i ∷ l) ≡ l
unfolding remove
remove_here i l = rw (eq-eqb i i refl)

pub remove_there : (i j : ℕ) (l : List ℕ) → j ≢ i → remove i (j ∷ l) ≡ j ∷ remove i l
unfolding remove
remove_there i j l n = rw (ne_eqb j i n)

pub remove_absent : (i : ℕ) (l : List ℕ) → (T (has i l) → ⊥) → remove i l ≡ l
unfolding remove
remove_absent i [] n = refl
remove_absent i (j ∷ l) n =
    rw (ne_eqb j i (λ e. n (rw e (has_here i l))), remove_absent i l (λ h. n (has_there i j l h)))

pub has-remove : (j i : ℕ) (l : List ℕ) → T (has j (remove i l)) → T (has j l)
unfolding remove
has-remove j i [] h = h
has-remove j i (z ∷ l) h = cases (eqb z i)
    (λ e. has_there j z l (rw e at h))
    (λ e. has_cases j z (remove i l) (rw e at h) (λ q. rw q (has_here j l)) (λ t. has_there j z l (has-remove j i l t)))

-- another member stays
pub remove-has : (j i : ℕ) (l : List ℕ) → j ≢ i → T (has j l) → T (has j (remove i l))
unfolding remove
remove-has j i [] n h = h
remove-has j i (z ∷ l) n h = cases (eqb z i)
    (λ e. rw e (has_rest j z l (λ q. n (sym q ∙ eqb-true z i e)) h))
    (λ e. rw e (has_cases j z l h (λ q. rw q (has_here j (remove i l)))
    (λ t. has_there j z (remove i l) (remove-has j i l n t))))

pub remove_length : (i : ℕ) (l : List ℕ) → T (has i l) → suc (length (remove i l)) ≡ length l
unfolding remove
remove_length i [] h = absurd (has_none i h)
remove_length i (j ∷ l) h = cases (eqb j i) (λ e. rw e)
    (λ e. rw e (ap suc (remove_length i l (has_rest i j l (eqb-false j i e) h))))

------------------------------------------------------------------------
-- Lists without repeats

pub distinct_absent : (i : ℕ) (l : List ℕ) → Distinct (i ∷ l) → T (has i l) → ⊥
distinct_absent i l d h = all-has (λ j. i ≢ j) l d.0 i h refl

pub absent_distinct : (i : ℕ) (l : List ℕ) → (T (has i l) → ⊥) → Distinct l → Distinct (i ∷ l)
absent_distinct i l n d = (has_all (λ j. i ≢ j) l (λ j h e. n (rw e h)), d)

pub remove_distinct : (i : ℕ) (l : List ℕ) → Distinct l → Distinct (remove i l)
unfolding remove
remove_distinct i [] d = d
remove_distinct i (j ∷ l) d = cases (eqb j i) (λ e. rw e d.1)
    (λ e. rw e (absent_distinct j (remove i l) (λ h. distinct_absent j l d (has-remove j i l h))
    (remove_distinct i l d.1)))

-- what is taken out of a list without repeats is out
pub remove_out : (i : ℕ) (l : List ℕ) → Distinct l → T (has i (remove i l)) → ⊥
unfolding remove
remove_out i [] d h = has_none i h
remove_out i (j ∷ l) d h = cases (eqb j i)
    (λ e. distinct_absent j l d (rw (eqb-true j i e) (rw e at h)))
    (λ e. remove_out i l d.1 (has_rest i j (remove i l) (eqb-false j i e) (rw e at h)))

-- numbers from 1 to n, none twice, are at most n
pub distinct_length : (n : ℕ) (l : List ℕ) → Distinct l → ((j : ℕ) → T (has j l) → (1 ≤ j) × (j ≤ n)) → length l ≤ n
distinct_length zero [] d r = omega arith
distinct_length zero (j ∷ l) d r = absurd (omega (arith, r j (has_here j l)))
distinct_length (suc n) l d r =
    let rest = distinct_length n (remove (suc n) l) (remove_distinct (suc n) l d) below in
    cases (has (suc n) l)
    (λ e. omega (arith, remove_length (suc n) l (rw e tt)))
    (λ e. omega (arith, ap length (remove_absent (suc n) l (λ h. rw e at h))))
  where
    below : (j : ℕ) → T (has j (remove (suc n) l)) → (1 ≤ j) × (j ≤ n)
    below j h =
        let b = r j (has-remove j (suc n) l h) in
        let n : j ≢ suc n = λ e. remove_out (suc n) l d (rw e at h) in
        omega arith

------------------------------------------------------------------------
-- Members of a list in two parts

pub has_first : (j : ℕ) (f l : List ℕ) → T (has j f) → T (has j (f ++ l))
has_first j [] l h = absurd (has_none j h)
has_first j (z ∷ f) l h =
    has_cases j z f h (λ e. rw e (has_here j (f ++ l))) (λ t. has_there j z (f ++ l) (has_first j f l t))

pub has_back : (j : ℕ) (f l : List ℕ) → T (has j l) → T (has j (f ++ l))
has_back j [] l h = h
has_back j (z ∷ f) l h = has_there j z (f ++ l) (has_back j f l h)

pub has_parts : {X : Type 0} (j : ℕ) (f l : List ℕ) → T (has j (f ++ l)) → (T (has j f) → X) → (T (has j l) → X) → X
has_parts j [] l h a b = b h
has_parts j (z ∷ f) l h a b =
    has_cases j z (f ++ l) h (λ e. a (rw e (has_here j f))) (λ t. has_parts j f l t (λ u. a (has_there j z f u)) b)

pub remove_after : (i : ℕ) (f m : List ℕ) → (T (has i f) → ⊥) → remove i (f ++ (i ∷ m)) ≡ f ++ m
remove_after i [] m n = remove_here i m
remove_after i (z ∷ f) m n =
    remove_there i z (f ++ (i ∷ m)) (λ e. n (rw e (has_here i f)))
    ∙ ap (λ (l : List ℕ). z ∷ l) (remove_after i f m (λ h. n (has_there i z f h)))

pub distinct_front : (i : ℕ) (f m : List ℕ) → Distinct (f ++ (i ∷ m)) → T (has i f) → ⊥
distinct_front i [] m d h = has_none i h
distinct_front i (z ∷ f) m d h = has_cases i z f h
    (λ e. distinct_absent z (f ++ (i ∷ m)) d (rw e (has_back i f (i ∷ m) (has_here i m))))
    (distinct_front i f m d.1)
