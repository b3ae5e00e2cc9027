-- Laws of the indices of the vacant records, in rising order, and of the number of pending ones.
use Prim.Native.Nat.{ℕ, zero, suc, ◌+◌, ◌≤◌, ◌<◌}
use native.Mathlib.Omega.{arith}
use native.Mathlib.Nat.{add-zero, add-suc, suc-add}
use mathlib.Core.Path.{◌≡◌, refl, ap}
use mathlib.Core.List.{List, [], ◌∷◌}
use borrow.Author.Tests.{lt-ltb, le-ltb}
use borrow.Table.Steps.{cases}
use lib.Dec.{ltb}
use lib.ListN.{length, get_or, set, replicate}
use Rattle.book.proofs.Sort.{insert_rising, insert_by_length}
use Rattle.book.specs.Book.{Slot, vacant, held, pending_count}
use Rattle.book.specs.Lists.{rising, sort_by, insert_by}
use Rattle.book.specs.Words.{vacant_indices, sort_rising}
use Rattle.book.specs.declared.StopEntry.{StopEntry}

------------------------------------------------------------------------
-- Insertion

pub insert_rising_later : (i j : ℕ) (l : List ℕ) → j ≤ i → insert_rising i (j ∷ l) ≡ j ∷ insert_rising i l
unfolding insert_by
insert_rising_later i j l h = rw (le-ltb i j h)

------------------------------------------------------------------------
-- The vacant records, from index j on

-- an index below theirs comes first
vacant_indices_below : (i j : ℕ) (ss : List Slot) → i < j → insert_rising i (vacant_indices j ss) ≡ i ∷ vacant_indices j ss
unfolding insert_by vacant_indices
vacant_indices_below i j [] h = refl
vacant_indices_below i j (vacant ∷ ss) h = rw (lt-ltb i j h)
vacant_indices_below i j (held t ∷ ss) h = vacant_indices_below i (suc j) ss (omega arith)

pub vacant_indices_first : (j : ℕ) (ss : List Slot)
    → insert_rising j (vacant_indices (suc j) ss) ≡ j ∷ vacant_indices (suc j) ss
vacant_indices_first j ss = vacant_indices_below j (suc j) ss (omega arith)

pub vacant_indices-rising : (j : ℕ) (ss : List Slot) → sort_rising (vacant_indices j ss) ≡ vacant_indices j ss
unfolding vacant_indices sort_by
vacant_indices-rising j [] = refl
vacant_indices-rising j (vacant ∷ ss) = rw (vacant_indices-rising (suc j) ss) (vacant_indices_first j ss)
vacant_indices-rising j (held t ∷ ss) = vacant_indices-rising (suc j) ss

pub vacant_indices_empty : (j n : ℕ) → vacant_indices j (replicate n vacant) ≡ rising j n
unfolding vacant_indices rising
vacant_indices_empty j zero = refl
vacant_indices_empty j (suc n) = ap (λ (l : List ℕ). j ∷ l) (vacant_indices_empty (suc j) n)

-- a held record is changed
pub vacant_indices_kept : (j : ℕ) (ss : List Slot) (k : ℕ) (t u : StopEntry) → get_or ss k vacant ≡ held t
    → vacant_indices j (set ss k (held u)) ≡ vacant_indices j ss
unfolding vacant_indices
vacant_indices_kept j [] k t u e = refl
vacant_indices_kept j (vacant ∷ ss) zero t u e = let z : ◌≡◌ {A = ℕ} 0 1 = cc in absurd (omega arith)
vacant_indices_kept j (held s ∷ ss) zero t u e = refl
vacant_indices_kept j (vacant ∷ ss) (suc k) t u e = ap (λ (l : List ℕ). j ∷ l) (vacant_indices_kept (suc j) ss k t u e)
vacant_indices_kept j (held s ∷ ss) (suc k) t u e = vacant_indices_kept (suc j) ss k t u e

-- a held record is vacated: its index comes in
pub vacant_indices-vacated : (j : ℕ) (ss : List Slot) (k : ℕ) (t : StopEntry) → get_or ss k vacant ≡ held t
    → insert_rising (j + k) (vacant_indices j ss) ≡ vacant_indices j (set ss k vacant)
unfolding vacant_indices
vacant_indices-vacated j [] k t e = let z : ◌≡◌ {A = ℕ} 0 1 = cc in absurd (omega arith)
vacant_indices-vacated j (vacant ∷ ss) zero t e = let z : ◌≡◌ {A = ℕ} 0 1 = cc in absurd (omega arith)
vacant_indices-vacated j (held s ∷ ss) zero t e = rw add-zero (vacant_indices_first j ss)
vacant_indices-vacated j (vacant ∷ ss) (suc k) t e =
    let h : j ≤ j + suc k = omega arith in
    rw (insert_rising_later (j + suc k) j, add-suc j k, ← suc-add j k, vacant_indices-vacated (suc j) ss k t e)
vacant_indices-vacated j (held s ∷ ss) (suc k) t e =
    rw (add-suc j k, ← suc-add j k) (vacant_indices-vacated (suc j) ss k t e)

-- the numbers before and after one is taken: a vacant record's, which is then held
pub record Taken (x j : ℕ) (l : List ℕ) (ss : List Slot) (t : StopEntry) : Type 0 where
  pub place : ℕ
  pub is : x ≡ j + place
  pub inside : place < length ss
  pub vacant_there : get_or ss place vacant ≡ vacant
  pub others : l ≡ vacant_indices j (set ss place (held t))

taken_later : (x j : ℕ) (l m : List ℕ) (s : Slot) (ss : List Slot) (t : StopEntry) (r : Taken x (suc j) l ss t)
    → m ≡ vacant_indices j (s ∷ set ss r.place (held t)) → Taken x j m (s ∷ ss) t
taken_later x j l m s ss t r e = record {
  place = suc r.place;
  is = omega (arith, r.is);
  inside = omega (arith, r.inside);
  vacant_there = r.vacant_there;
  others = e;
}

taken_here : (x j : ℕ) (l : List ℕ) (ss : List Slot) (t : StopEntry) → x ∷ l ≡ j ∷ vacant_indices (suc j) ss
    → Taken x j l (vacant ∷ ss) t
unfolding vacant_indices
taken_here x j l ss t e = record {
  place = 0;
  is = let q : x ≡ j = cc in omega arith;
  inside = omega arith;
  vacant_there = refl;
  others = cc;
}

pub vacant_indices_taken : (x j : ℕ) (l : List ℕ) (ss : List Slot) (t : StopEntry)
    → insert_rising x l ≡ vacant_indices j ss → Taken x j l ss t
unfolding vacant_indices insert_by
vacant_indices_taken x j l [] t e = absurd (omega (arith, insert_by_length ltb x l, ap length e))
vacant_indices_taken x j [] (vacant ∷ ss) t e = taken_here x j [] ss t e
vacant_indices_taken x j (y ∷ l) (vacant ∷ ss) t e = cases (ltb x y)
    (λ f. taken_here x j (y ∷ l) ss t (rw f at e))
    (λ f.
    let g : y ∷ insert_rising x l ≡ j ∷ vacant_indices (suc j) ss = rw f at e in
    let r = vacant_indices_taken x (suc j) l ss t (cc) in
    taken_later x j l (y ∷ l) vacant ss t r (cc r.others))
vacant_indices_taken x j l (held u ∷ ss) t e =
    let r = vacant_indices_taken x (suc j) l ss t e in taken_later x j l l (held u) ss t r r.others

------------------------------------------------------------------------
-- The number of pending records

-- what one record counts is taken away, what it becomes is added
pub pending_count_set : (ss : List Slot) (k : ℕ) (s : Slot) → k < length ss
    → pending_count (set ss k s) + pending_count (get_or ss k vacant ∷ []) ≡ pending_count ss + pending_count (s ∷ [])
unfolding pending_count
pending_count_set [] k s h = absurd (omega arith)
pending_count_set (vacant ∷ ss) zero vacant h = refl
pending_count_set (vacant ∷ ss) zero (held t) h = omega arith
pending_count_set (held u ∷ ss) zero vacant h = omega arith
pending_count_set (held u ∷ ss) zero (held t) h = refl
pending_count_set (vacant ∷ ss) (suc k) s h = pending_count_set ss k s (omega arith)
pending_count_set (held u ∷ ss) (suc k) s h = omega (arith, pending_count_set ss k s (omega arith))
