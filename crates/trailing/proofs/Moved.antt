-- How many stops of a side move: one after another along the watermark chain, as many as the list of the moved has.
use Prim.Native.Nat.{ℕ, suc, ◌+◌, ◌-◌}
use mathlib.Core.Path.{◌≡◌, refl, ◌∙◌}
use mathlib.Core.List.{List, [], ◌∷◌}
use native.Mathlib.Omega.{arith}
use borrow.Table.Steps.{cases}
use lib.Dec.{T, eqb}
use lib.ListN.{length, get_or, length-map}
use Rattle.pricelevel.specs.declared.Price.{Price}
use Rattle.pricelevel.specs.declared.Side.{Side}
use Rattle.pricelevel.specs.declared.Side.TheVariants.{Buy, Sell}
use Rattle.book.proofs.Sort.{sort_by_length, insert}
use Rattle.book.proofs.Lookup.{InBook, chain_in_book}
use Rattle.book.specs.Book.{Slot, vacant, held, Book, Pending, side_of, stop_of, before}
use Rattle.book.specs.Book.{with_index, gather, sort, of_side, pending_on, chain, indices}
use Rattle.book.specs.Evaluation.{trailed, changed_on, mover, moved_on}
use Rattle.book.specs.Words.{chain_indices}
use Rattle.book.specs.declared.Chain.{Chain}
use Rattle.book.specs.declared.Chain.TheVariants.{ByWatermark}
use Rattle.book.specs.declared.StopEntry.{StopEntry}
use Rattle.chains.proofs.Members.{has_here, has_there}
use Rattle.chains.specs.Indices.{has}
use Rattle.trailing.specs.Trail.{moves}
use Rattle.book.specs.Lists.{sort_by, insert_by, All}

-- of a record
abbrev pub moves_slot : Price → Slot → ℕ
moves_slot price vacant = 0
moves_slot price (held t) = moves price t

-- of these records
unfoldable pub moves_in : Price → List Slot → List ℕ → ℕ
moves_in price ss [] = 0
moves_in price ss (j ∷ l) = moves_slot price (get_or ss (j - 1) vacant) + moves_in price ss l

-- of these stops
unfoldable moves_of : Price → List Pending → ℕ
moves_of price [] = 0
moves_of price (p ∷ l) = moves price p.entry + moves_of price l

module _ (price : Price) where
  pub moves_in_next : (ss : List Slot) (j : ℕ) (l : List ℕ)
      → moves_in price ss (j ∷ l) ≡ moves_slot price (get_or ss (j - 1) vacant) + moves_in price ss l
  unfolding moves_in
  moves_in_next ss j l = refl

  pub moves_in_none : (ss : List Slot) (l : List ℕ)
      → ((j : ℕ) → T (has j l) → moves_slot price (get_or ss (j - 1) vacant) ≡ 0) → moves_in price ss l ≡ 0
  unfolding moves_in
  moves_in_none ss [] h = refl
  moves_in_none ss (j ∷ l) h = omega (arith, h j (has_here j l), moves_in_none ss l (λ i t. h i (has_there i j l t)))

  insert-moves : (c : Chain) (p : Pending) (l : List Pending)
      → moves_of price (insert c p l) ≡ moves price p.entry + moves_of price l
  unfolding insert_by moves_of
  insert-moves c p [] = refl
  insert-moves c p (q ∷ l) =
      cases (before c p.entry q.entry) (λ e. rw e) (λ e. rw (e, insert-moves c p l) (omega arith))

  sort-moves : (c : Chain) (l : List Pending) → moves_of price (sort c l) ≡ moves_of price l
  unfolding sort_by moves_of
  sort-moves c [] = refl
  sort-moves c (p ∷ l) = rw (insert-moves c p (sort c l), sort-moves c l)

  indices-moves : (ss : List Slot) (l : List Pending) → All (InBook ss) l
      → moves_in price ss (indices l) ≡ moves_of price l
  unfolding moves_in moves_of indices
  indices-moves ss [] h = refl
  indices-moves ss (p ∷ l) h = rw (h.0.there, indices-moves ss l h.1)

  -- one stop more, of side d, where those of side a are gathered
  module _ (i : ℕ) (t : StopEntry) (l m : List Pending) (h : moves_of price l ≡ length m) where
    next_still : (a d : Side) → moves price t ≡ 0 → moves_of price (with_index i (of_side a d t) l) ≡ length m
    unfolding with_index of_side moves_of
    next_still Sell Sell e = omega arith
    next_still Sell Buy e = h
    next_still Buy Sell e = h
    next_still Buy Buy e = omega arith

    next_moved : (a d : Side) → moves price t ≡ 1
        → moves_of price (with_index i (of_side a d t) l) ≡ length (with_index i (of_side a d t) m)
    unfolding with_index of_side moves_of
    next_moved Sell Sell e = omega arith
    next_moved Sell Buy e = h
    next_moved Buy Sell e = h
    next_moved Buy Buy e = omega arith

  gather-moves : (side : Side) (i : ℕ) (ss : List Slot)
      → moves_of price (gather (pending_on side) i ss) ≡ length (gather (mover price side) i ss)
  unfolding gather with_index pending_on mover changed_on moves_of moves
  gather-moves side i [] = refl
  gather-moves side i (vacant ∷ ss) = gather-moves side (suc i) ss
  gather-moves side i (held t ∷ ss) =
      let rest = gather-moves side (suc i) ss in
      cases (eqb (stop_of (trailed price t)) (stop_of t))
      (λ e. rw e (next_still i t (gather (pending_on side) (suc i) ss)
      (gather (mover price side) (suc i) ss) rest side (side_of t) (rw e)))
      (λ e. rw e (next_moved i t (gather (pending_on side) (suc i) ss)
      (gather (mover price side) (suc i) ss) rest side (side_of t) (rw e)))

  pub chain-moves : (side : Side) (b : Book)
      → moves_in price b.slots (chain_indices (ByWatermark side) b) ≡ length (moved_on price side b)
  unfolding chain_indices chain moved_on
  chain-moves side b =
      simp (length-map, sort_by_length)
      (indices-moves b.slots (chain (ByWatermark side) b.slots) (chain_in_book (ByWatermark side) b.slots)
      ∙ sort-moves (ByWatermark side) (gather (pending_on side) 1 b.slots)
      ∙ gather-moves side 1 b.slots)
