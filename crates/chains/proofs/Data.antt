-- Laws of a run of stores at the words of one record: what they keep, and what is read back.
use Prim.Native.Nat.{ℕ, zero, suc, ◌+◌, ◌≤◌, ◌<◌}
use mathlib.Core.Path.{◌≡◌, refl, sym, ◌∙◌}
use mathlib.Core.Logic.{◌≢◌}
use mathlib.Core.List.{List, [], ◌∷◌}
use native.Mathlib.Omega.{arith}
use lib.ListN.{length, get_or, set, drop, length-set}
use lib.Seq.{get_or-set_same, get_or-set_other, drop-set-lt, sets}
use Rattle.book.specs.Words.{cell, record_word}
use Rattle.book.specs.Sizes.{header_length, record_length, store_length}
use Rattle.chains.proofs.Cells.{cell_least, cell_end, cell_plus, cell_injective}
use Rattle.chains.proofs.Chained.{ready_set}
use Rattle.chains.specs.Chained.{Ready}
use Rattle.book.specs.declared.StoreChain.{StoreChain}
use Rattle.chains.specs.Records.{Record}

------------------------------------------------------------------------
-- A run of stores

get_d_sets-other : (vs l : List ℕ) (i q : ℕ) → ((m : ℕ) → m < length vs → q ≢ i + m)
    → get_or (sets l i vs) q 0 ≡ get_or l q 0
get_d_sets-other [] l i q h = refl
get_d_sets-other (v ∷ vs) l i q h =
    get_d_sets-other vs (set l i v) (suc i) q (λ m t e. h (suc m) (omega arith) (omega arith))
    ∙ get_or-set_other l i q v 0 (λ e. h 0 (omega arith) (omega arith))

get_d_sets_here : (vs l : List ℕ) (i m : ℕ) → i + length vs ≤ length l → m < length vs
    → get_or (sets l i vs) (i + m) 0 ≡ get_or vs m 0
get_d_sets_here [] l i m h t = absurd (omega arith)
get_d_sets_here (v ∷ vs) l i zero h t =
    let e : i + 0 ≡ i = omega arith in
    rw e (get_d_sets-other vs (set l i v) (suc i) i (λ m u q. omega arith) ∙ get_or-set_same l i v 0 (omega arith))
get_d_sets_here (v ∷ vs) l i (suc m) h t =
    let e : i + suc m ≡ suc i + m = omega arith in
    rw e (get_d_sets_here vs (set l i v) (suc i) m (rw length-set (omega arith)) (omega arith))

drop_sets : (n : ℕ) (vs l : List ℕ) (i : ℕ) → i + length vs ≤ n → drop n (sets l i vs) ≡ drop n l
drop_sets n [] l i h = refl
drop_sets n (v ∷ vs) l i h = drop_sets n vs (set l i v) (suc i) (omega arith) ∙ drop-set-lt n l i v (omega arith)

-- what each store at words k up to m of record i keeps, the run keeps
sets_keeps : (P : List ℕ → Type 0) (i m : ℕ) → ((w : List ℕ) (k v : ℕ) → k < m → P w → P (set w (cell i k) v))
    → (vs w : List ℕ) (k : ℕ) → k + length vs ≤ m → P w → P (sets w (cell i k) vs)
sets_keeps P i m f [] w k h p = p
sets_keeps P i m f (v ∷ vs) w k h p =
    let e : suc (cell i k) ≡ cell i (suc k) = omega (arith, cell_plus i k, cell_plus i (suc k)) in
    rw e (sets_keeps P i m f vs (set w (cell i k) v) (suc k) (omega arith) (f w k v (omega arith) p))

------------------------------------------------------------------------
-- At the first words of a record

module _ (n : ℕ) (w : List ℕ) (i : ℕ) (vs : List ℕ) (few : length vs ≤ record_length) where
  pub sets_word : Record n w i → (k : ℕ) → k < length vs → record_word (sets w (cell i 0) vs) i k ≡ get_or vs k 0
  unfolding record_word
  sets_word r k h =
      rw (cell_plus i k) (get_d_sets_here vs w (cell i 0) k
      (omega (arith, cell_end n i r.least r.most, r.inside.room)) h)

  -- the words after them, and those of another record
  pub sets_word-other : (j k : ℕ) → 1 ≤ i → 1 ≤ j → k < record_length → (j ≡ i → length vs ≤ k)
      → record_word (sets w (cell i 0) vs) j k ≡ record_word w j k
  unfolding record_word
  sets_word-other j k low low' h later =
      get_d_sets-other vs w (cell i 0) (cell j k)
      (λ m t e.
      let q = cell_injective j i k m low' low h (omega arith) (e ∙ sym (cell_plus i m)) in
      omega (arith, later q.0, q.1))

  pub sets-header : (k : ℕ) → k < header_length → get_or (sets w (cell i 0) vs) k 0 ≡ get_or w k 0
  sets-header k h = get_d_sets-other vs w (cell i 0) k (λ m t e. omega (arith, cell_least i 0))

  pub sets-beyond : 1 ≤ i → i ≤ n → drop (store_length n) (sets w (cell i 0) vs) ≡ drop (store_length n) w
  sets-beyond least most = drop_sets (store_length n) vs w (cell i 0) (omega (arith, cell_end n i least most))

------------------------------------------------------------------------
-- The chains

pub ready_sets : (n : ℕ) (w : List ℕ) (ch : StoreChain → List ℕ) (i : ℕ) (vs : List ℕ) → length vs ≤ record_length
    → Ready n w ch i → Ready n (sets w (cell i 0) vs) ch i
ready_sets n w ch i vs h =
    sets_keeps (λ v. Ready n v ch i) i record_length (λ v k x t r. ready_set n v ch i k x t r) vs w 0 (omega arith)
