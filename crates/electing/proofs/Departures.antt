-- The elected of a side leave one after the other, from the head of the stop chain: what one step leaves, and what
-- holds of all.
use Prim.Native.Nat.{ℕ, zero, suc, ◌+◌, ◌-◌, ◌≤◌}
use native.Mathlib.Omega.{arith}
use mathlib.Core.Path.{◌≡◌, refl, sym, ap, ◌∙◌}
use mathlib.Core.List.{List, [], ◌∷◌, ◌++◌, append_cancel_right, cons-ne-nil, head-eq_of_cons-eq, tail-eq_of_cons-eq}
use lib.ListN.{length, get_or, length-append, length-map, get_or-map}
use lib.Seq.{map-set_same}
use Rattle.pricelevel.specs.declared.Price.{Price}
use Rattle.pricelevel.specs.declared.Side.{Side}
use Rattle.book.proofs.Operations.{vacated-valid, vacated_fits, vacated_count}
use Rattle.book.proofs.Lookup.{InBook}
use Rattle.book.specs.Steps.{elect, elected_in, vacated_by, stays, taken_on}
use Rattle.book.specs.Valid.{Valid, Fits}
use Rattle.book.specs.Book.{vacant, Book, Pending, indices, pending_count}
use Rattle.book.specs.Evaluation.{freed}
use Rattle.book.specs.Store.{vacated}
use Rattle.book.specs.Words.{chain_indices}
use Rattle.book.specs.declared.Chain.TheVariants.{ByStop}
use Rattle.chains.proofs.OneChain.{linked_length}
use Rattle.chains.proofs.Members.{remove_here}
use Rattle.chains.specs.Indices.{remove}
use Rattle.chains.specs.Links.{Linked}
use Rattle.book.specs.Chains.{Member}
use Rattle.pending_stops.proofs.ChainChanges.{chain_out}
use Rattle.pending_stops.proofs.Unchained.{chain_indices_slots}
use Rattle.electing.proofs.Elected.{elected-indices, First, first_elected_lem, some_elected}
use Rattle.electing.proofs.Remainder.{stays_elected, stays_vacant, taken_none}

-- the records freed are those of the indices
freed-indices : (l m : List Pending) (free : List ℕ) → indices l ≡ indices m → freed l free ≡ freed m free
unfolding freed indices
freed-indices [] [] free e = refl
freed-indices [] (q ∷ m) free e = absurd (cons-ne-nil q.index (indices m) (sym e))
freed-indices (p ∷ l) [] free e = absurd (cons-ne-nil p.index (indices l) e)
freed-indices (p ∷ l) (q ∷ m) free e =
    let same : p.index ≡ q.index =
    head-eq_of_cons-eq e in rw same (freed-indices l m (q.index ∷ free) (tail-eq_of_cons-eq e))

length-indices : (l : List Pending) → length (indices l) ≡ length l
unfolding indices
length-indices l = length-map l (λ p. p.index)

------------------------------------------------------------------------
-- The first of the stop chain is elected and leaves

module _ {side : Side} {price : Price} {b : Book} (v : Valid b) (f : Fits b) {i : ℕ} (q : First side price b i) where
  abbrev m : Member side b.slots i
  m = q.member

  abbrev stop : Pending
  stop = record { index = i; entry = m.entry }

  abbrev rest : Book
  rest = vacated i b

  pub first_in_book : InBook b.slots stop
  first_in_book = record { from = m.from; to = m.to; there = m.there }

  gone : stays side price (get_or b.slots (i - 1) vacant) ≡ vacant
  gone = rw m.there (stays_elected side price m.entry m.is_of_side q.elected)

  slots-step : (taken_on side price rest).slots ≡ (taken_on side price b).slots
  unfolding vacated taken_on
  slots-step = map-set_same (stays side price) b.slots (i - 1) vacant vacant (stays_vacant side price ∙ sym gone)

  -- its record is vacant in the end
  pub taken_vacant : get_or (taken_on side price rest).slots (i - 1) vacant ≡ vacant
  unfolding taken_on stays elect vacated_by
  taken_vacant = rw slots-step (get_or-map (stays side price) b.slots (i - 1) vacant ∙ gone)

  now : (l : List Pending) × (elected_in side price b ≡ stop ∷ l)
  now = first_elected_lem side price b i q.rest q.first m q.elected

  -- the others are elected still, in the same order
  indices_step : indices now.0 ≡ indices (elected_in side price rest)
  unfolding indices
  indices_step = append_cancel_right _ _ left together
    where
      left : List ℕ
      left = chain_indices (ByStop side) (taken_on side price b)

      together : indices now.0 ++ left ≡ indices (elected_in side price rest) ++ left
      together =
          sym (remove_here i (indices now.0 ++ left))
          ∙ ap (remove i) (ap (λ (l : List Pending). indices l ++ left) (sym now.1)
          ∙ sym (elected-indices side price b))
          ∙ sym (chain_out (ByStop side) b v f i m.from) ∙ elected-indices side price rest
          ∙ ap (λ (l : List ℕ). indices (elected_in side price rest) ++ l)
          (chain_indices_slots (ByStop side) (taken_on side price rest) (taken_on side price b) slots-step)

  pub count-step : length (elected_in side price b) ≡ suc (length (elected_in side price rest))
  count-step =
      omega (
        arith,
        ap length now.1,
        ap length indices_step,
        length-indices now.0,
        length-indices (elected_in side price rest),
      )

  freed-step : freed (elected_in side price rest) (i ∷ b.free) ≡ freed (elected_in side price b) b.free
  unfolding freed
  freed-step = freed-indices (elected_in side price rest) now.0 (i ∷ b.free) (sym indices_step) ∙ rw now.1

  pub taken_step : taken_on side price rest ≡ taken_on side price b
  unfolding taken_on vacated
  taken_step = rw (slots-step, freed-step)

------------------------------------------------------------------------
-- All that are elected leave

module _ (side : Side) (price : Price) where
  -- what holds where none is elected, and of a book if of the one that its first elected stop has left, holds
  module _ (P : Book → Type 0) (none : (b : Book) → Valid b → Fits b → elected_in side price b ≡ [] → P b)
      (step : (b : Book) → Valid b → Fits b → (i : ℕ) → First side price b i → P (vacated i b) → P b) where
    turn : (b : Book) → Valid b → Fits b
        → ((c : Book) → Valid c → Fits c → length (elected_in side price b) ≡ suc (length (elected_in side price c))
        → P c) → P b
    turn b v f later = go (elected_in side price b) refl
      where
        go : (l : List Pending) → elected_in side price b ≡ l → P b
        go [] e = none b v f e
        go (p ∷ l) e =
            let i = p.index in
            let q = some_elected side price b f p l e in
            step b v f i q (later (vacated i b) (vacated-valid _ b v (first_in_book v f q)) (vacated_fits i b f)
            (count-step v f q))

    turns : (k : ℕ) (b : Book) → Valid b → Fits b → length (elected_in side price b) ≡ k → P b
    turns zero b v f e = turn b v f (λ c vc fc q. absurd (omega (arith, q, e)))
    turns (suc k) b v f e = turn b v f (λ c vc fc q. turns k c vc fc (omega (arith, q, e)))

    pub one_by_one : (b : Book) → Valid b → Fits b → P b
    one_by_one b v f = turns (length (elected_in side price b)) b v f refl

  -- as many fewer are pending
  pub taken_count : (b : Book) → Valid b → Fits b
      → pending_count b.slots ≡ length (elected_in side price b) + pending_count (taken_on side price b).slots
  taken_count =
      one_by_one (λ b. pending_count b.slots ≡ length (elected_in side price b) + pending_count
      (taken_on side price b).slots)
      (λ b v f e. rw (taken_none side price b e, e) (omega arith))
      (λ b v f i q h. omega
      (arith, rw (taken_step v f q) at h, count-step v f q, vacated_count _ b (first_in_book v f q)))

  -- they are no more than the chain has records
  pub elected_few : (n : ℕ) (w : List ℕ) (k p : ℕ) (b : Book) → Linked n w k p (chain_indices (ByStop side) b)
      → length (elected_in side price b) ≤ n
  elected_few n w k p b h =
      let out : List ℕ = indices (elected_in side price b) in
      let left : List ℕ = chain_indices (ByStop side) (taken_on side price b) in
      omega (
        arith,
        linked_length n k w p (chain_indices (ByStop side) b) h,
        ap length (elected-indices side price b),
        length-append out left,
        length-indices (elected_in side price b),
      )
