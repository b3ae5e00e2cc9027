-- Laws of lists: what holds of every element, tests on every element, and two lists compared.
use Prim.Native.Nat.{ℕ, zero, suc, ◌+◌, ◌<◌}
use mathlib.Core.Path.{◌≡◌, refl, ap, ap₂, ◌∙◌}
use mathlib.Core.Bool.{Bool, true, false, false≢true}
use mathlib.Core.List.{List, [], ◌∷◌, ◌++◌, map}
use native.Mathlib.Nat.{add-zero, add-suc, suc-add}
use native.Mathlib.Omega.{arith}
use lib.Dec.{eqb}
use lib.ListN.{length, get_or, set, take, drop, replicate}
use lib.Seq.{sets, get_or-set_other}
use borrow.Author.Tests.{eqb-true, eq-eqb}
use borrow.Table.Steps.{cases}
use Rattle.pricelevel.proofs.Bools.{and_parts}
use Rattle.book.specs.Lists.{All, every, same_by, same_list}

pub all_map : {A : Type 0} {P Q : A → Type 0} (f : (x : A) → P x → Q x) (l : List A) → All P l → All Q l
all_map f [] h = tt
all_map f (x ∷ l) h = (f x h.0, all_map f l h.1)

pub every_all : {A : Type 0} (p : A → Bool) (l : List A) → every p l ≡ true → All (λ x. p x ≡ true) l
unfolding every
every_all p [] e = tt
every_all p (x ∷ l) e = let h = and_parts (p x) (every p l) e in (h.0, every_all p l h.1)

pub all-every : {A : Type 0} (p : A → Bool) (l : List A) → All (λ x. p x ≡ true) l → every p l ≡ true
unfolding every
all-every p [] h = refl
all-every p (x ∷ l) h = rw (h.0, all-every p l h.1)

------------------------------------------------------------------------
-- Two lists compared element by element

module _ {A : Type 0} (same : A → A → Bool) where
  pub same_by_equal : ((x y : A) → same x y ≡ true → x ≡ y) → (l m : List A) → same_by same l m ≡ true → l ≡ m
  unfolding same_by
  same_by_equal exact [] [] e = refl
  same_by_equal exact [] (y ∷ m) e = absurd (false≢true e)
  same_by_equal exact (x ∷ l) [] e = absurd (false≢true e)
  same_by_equal exact (x ∷ l) (y ∷ m) e =
      let h = and_parts (same x y) (same_by same l m) e in
      ap₂ (λ (a : A) (b : List A). a ∷ b) (exact x y h.0) (same_by_equal exact l m h.1)

  pub same_by_refl : ((x : A) → same x x ≡ true) → (l : List A) → same_by same l l ≡ true
  unfolding same_by
  same_by_refl own [] = refl
  same_by_refl own (x ∷ l) = rw (own x, same_by_refl own l)

  -- another length, and another element at a place
  pub same_by_length : (l m : List A) → (length l ≡ length m → ⊥) → same_by same l m ≡ false
  unfolding same_by
  same_by_length [] [] h = absurd (h refl)
  same_by_length [] (y ∷ m) h = refl
  same_by_length (x ∷ l) [] h = refl
  same_by_length (x ∷ l) (y ∷ m) h = cases (same x y)
      (λ e. rw e (same_by_length l m (λ k. h (ap suc k)))) (λ e. rw e)

  pub same_by-place : (l m : List A) (i : ℕ) (d : A) → i < length l → i < length m → same (get_or l i d) (get_or m i d) ≡ false
      → same_by same l m ≡ false
  unfolding same_by
  same_by-place [] m i d h k e = absurd (omega (arith, h))
  same_by-place (x ∷ l) [] i d h k e = absurd (omega (arith, k))
  same_by-place (x ∷ l) (y ∷ m) zero d h k e = rw e
  same_by-place (x ∷ l) (y ∷ m) (suc i) d h k e = cases (same x y)
      (λ f. rw f (same_by-place l m i d (omega (arith, h)) (omega (arith, k)) e)) (λ f. rw f)

  -- the same at every place
  pub same_by_places : (l m : List A) (d : A) → length l ≡ length m
      → ((i : ℕ) → i < length l → same (get_or l i d) (get_or m i d) ≡ true) → same_by same l m ≡ true
  unfolding same_by
  same_by_places [] [] d h f = refl
  same_by_places [] (y ∷ m) d h f = absurd (omega (arith, h))
  same_by_places (x ∷ l) [] d h f = absurd (omega (arith, h))
  same_by_places (x ∷ l) (y ∷ m) d h f =
      rw (f 0 (omega arith), same_by_places l m d (omega (arith, h)) (λ i k. f (suc i) (omega (arith, k))))

  -- more elements than the other list has change nothing, where one of them is left
  pub same_by_cut : (k : ℕ) (l m : List A) → length m < k → same_by same (take k l) m ≡ same_by same l m
  unfolding same_by
  same_by_cut zero l m h = absurd (omega (arith, h))
  same_by_cut (suc k) [] m h = refl
  same_by_cut (suc k) (x ∷ l) [] h = refl
  same_by_cut (suc k) (x ∷ l) (y ∷ m) h = rw (same_by_cut k l m (omega (arith, h)))

-- of images, where a test of these is a test of the elements
pub same_by_mapped : {A B : Type 0} (same : A → A → Bool) (tests : B → B → Bool) (f g : A → B) (P : A → Type 0)
    → ((x y : A) → P y → tests (f x) (g y) ≡ same x y)
    → (l m : List A) → All P m → same_by tests (map f l) (map g m) ≡ same_by same l m
unfolding same_by
same_by_mapped same tests f g P h [] [] k = refl
same_by_mapped same tests f g P h [] (y ∷ m) k = refl
same_by_mapped same tests f g P h (x ∷ l) [] k = refl
same_by_mapped same tests f g P h (x ∷ l) (y ∷ m) k = rw (h x y k.0, same_by_mapped same tests f g P h l m k.1)

-- lists of numbers: the same by the numbers
pub same_list_by : (l m : List ℕ) → same_list l m ≡ same_by eqb l m
unfolding same_list same_by
same_list_by [] [] = refl
same_list_by [] (y ∷ m) = refl
same_list_by (x ∷ l) [] = refl
same_list_by (x ∷ l) (y ∷ m) = rw (same_list_by l m)

pub same_list_equal : (l m : List ℕ) → same_list l m ≡ true → l ≡ m
unfolding same_list
same_list_equal [] [] e = refl
same_list_equal [] (y ∷ m) e = absurd (false≢true e)
same_list_equal (x ∷ l) [] e = absurd (false≢true e)
same_list_equal (x ∷ l) (y ∷ m) e =
    let h = and_parts (eqb x y) (same_list l m) e in
    ap₂ (λ (a : ℕ) (b : List ℕ). a ∷ b) (eqb-true x y h.0) (same_list_equal l m h.1)

pub same_list_refl : (l : List ℕ) → same_list l l ≡ true
unfolding same_list
same_list_refl [] = refl
same_list_refl (x ∷ l) = rw (eq-eqb x x refl, same_list_refl l)

------------------------------------------------------------------------
-- What holds of every element

pub all_map_both : {A : Type 0} {P Q R : A → Type 0} (f : (x : A) → P x → Q x → R x) (l : List A) → All P l → All Q l
    → All R l
all_map_both f [] p q = tt
all_map_both f (x ∷ l) p q = (f x p.0 q.0, all_map_both f l p.1 q.1)

pub all_append : {A : Type 0} (P : A → Type 0) (l m : List A) → All P l → All P m → All P (l ++ m)
all_append P [] m h k = k
all_append P (x ∷ l) m h k = (h.0, all_append P l m h.1 k)

pub all_get_d : {A : Type 0} (P : A → Type 0) (l : List A) (i : ℕ) (d : A) → P d → All P l → P (get_or l i d)
all_get_d P [] i d o h = o
all_get_d P (x ∷ l) zero d o h = h.0
all_get_d P (x ∷ l) (suc i) d o h = all_get_d P l i d o h.1

pub all_at : {A : Type 0} (P : A → Type 0) (l : List A) (i : ℕ) (d : A) → i < length l → All P l → P (get_or l i d)
all_at P [] i d k h = absurd (omega arith)
all_at P (x ∷ l) zero d k h = h.0
all_at P (x ∷ l) (suc i) d k h = all_at P l i d (omega arith) h.1

pub all_of : {A : Type 0} {P : A → Type 0} → ((x : A) → P x) → (l : List A) → All P l
all_of f [] = tt
all_of f (x ∷ l) = (f x, all_of f l)

pub all_append_parts : {A : Type 0} (P : A → Type 0) (l m : List A) → All P (l ++ m) → All P l × All P m
all_append_parts P [] m h = (tt, h)
all_append_parts P (x ∷ l) m h = let r = all_append_parts P l m h.1 in ((h.0, r.0), r.1)

pub all_set : {A : Type 0} (P : A → Type 0) (l : List A) (i : ℕ) (a : A) → P a → All P l → All P (set l i a)
all_set P [] i a p h = tt
all_set P (x ∷ l) zero a p h = (p, h.1)
all_set P (x ∷ l) (suc i) a p h = (h.0, all_set P l i a p h.1)

pub get_d_all : {A : Type 0} (P : A → Type 0) (l : List A) (d : A) → ((i : ℕ) → i < length l → P (get_or l i d)) → All P l
get_d_all P [] d f = tt
get_d_all P (x ∷ l) d f = (f 0 (omega arith), get_d_all P l d (λ i h. f (suc i) (omega arith)))

pub all_replicate : {A : Type 0} (P : A → Type 0) (n : ℕ) (a : A) → P a → All P (replicate n a)
all_replicate P zero a p = tt
all_replicate P (suc n) a p = (p, all_replicate P n a p)

pub all_drop : {A : Type 0} (P : A → Type 0) (n : ℕ) (l : List A) → All P l → All P (drop n l)
all_drop P zero l h = h
all_drop P (suc n) [] h = h
all_drop P (suc n) (x ∷ l) h = all_drop P n l h.1

pub all_mapped : {A B : Type 0} (P : A → Type 0) (Q : B → Type 0) (f : A → B) → ((x : A) → P x → Q (f x))
    → (l : List A) → All P l → All Q (map f l)
all_mapped P Q f g [] h = tt
all_mapped P Q f g (x ∷ l) h = (g x h.0, all_mapped P Q f g l h.1)

pub map_agree : {A B : Type 0} (f g : A → B) (l : List A) → All (λ x. f x ≡ g x) l → map f l ≡ map g l
map_agree f g [] h = refl
map_agree f g (x ∷ l) h = rw (h.0, map_agree f g l h.1)

-- elements stored from a place on, and more behind them
pub sets_append : {A : Type 0} (xs ys l : List A) (i : ℕ) → sets (sets l i xs) (i + length xs) ys ≡ sets l i (xs ++ ys)
sets_append [] ys l i = rw add-zero
sets_append (x ∷ xs) ys l i = rw (add-suc, ← suc-add) (sets_append xs ys (set l i x) (suc i))

pub get_d_sets_before : {A : Type 0} (xs l : List A) (i j : ℕ) (d : A) → i < j → get_or (sets l j xs) i d ≡ get_or l i d
get_d_sets_before [] l i j d h = refl
get_d_sets_before (x ∷ xs) l i j d h =
    get_d_sets_before xs (set l j x) i (suc j) d (omega arith) ∙ get_or-set_other l j i x d (λ e. omega arith)
