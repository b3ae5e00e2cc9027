-- How many stops a point takes out and how many it moves.
use Prim.Native.Nat.{ℕ, suc, ◌≤◌, ◌+◌}
use mathlib.Core.Path.{◌≡◌, ap, ◌∙◌}
use mathlib.Core.Bool.{Bool}
use mathlib.Core.List.{List, [], ◌∷◌, map}
use native.Mathlib.Omega.{arith}
use borrow.Table.Steps.{cases}
use lib.Dec.{eqb}
use lib.ListN.{length, length-append, length-map}
use Rattle.pricelevel.specs.declared.Price.{Price}
use Rattle.pricelevel.specs.declared.Side.{Side}
use Rattle.pricelevel.specs.declared.Side.TheVariants.{Buy, Sell}
use Rattle.book.proofs.FreeChain.{pending_count_vacant}
use Rattle.book.proofs.Sort.{sort_by_length}
use Rattle.book.proofs.FreedRecords.{insert_indices_length, vacant_indices-settled, elected_by-indices}
use Rattle.book.specs.Book.{Slot, vacant, held, Book, Pending, side_of, stop_of, with_index, gather, of_side, pending_count}
use Rattle.book.specs.Evaluation.{trailed, settled, elected_by, changed_on, mover, moved_on, moved_by, fill_at, point}
use Rattle.book.specs.Words.{vacant_indices}
use Rattle.book.specs.declared.StopEntry.{StopEntry}

------------------------------------------------------------------------
-- Lengths

-- a stop is of one side
pub length-of_side : (i : ℕ) (side : Side) (t : StopEntry) (ps qs : List Pending)
    → length (with_index i (of_side Sell side t) ps) + length (with_index i (of_side Buy side t) qs) ≡ suc
    (length ps + length qs)
unfolding of_side with_index
length-of_side i Sell t ps qs = omega arith
length-of_side i Buy t ps qs = omega arith

------------------------------------------------------------------------
-- The stops that a point takes out

-- as many records are pending less as are vacant more
pub point_count : (kill sells_first : Bool) (price : Price) (b : Book)
    → pending_count b.slots ≡ pending_count (point kill sells_first price b).book.slots + length
    (point kill sells_first price b).fills
unfolding point
point_count kill sells_first price b =
    let ss = b.slots in
    let out = elected_by kill sells_first price b in
    let indices = elected_by-indices kill sells_first price b (vacant_indices 1 ss)
    ∙ vacant_indices-settled kill price 1 ss in
    rw (length-map out (fill_at price)) (omega (
      arith,
      pending_count_vacant 1 ss,
      pending_count_vacant 1 (map (settled kill price) ss),
      ap length indices,
      insert_indices_length out (vacant_indices 1 ss),
      length-map ss (settled kill price),
    ))

------------------------------------------------------------------------
-- The stops that a point moves

pub movers_count : (price : Price) (i : ℕ) (ss : List Slot)
    → length (gather (mover price Sell) i ss) + length (gather (mover price Buy) i ss) ≤ pending_count ss
unfolding pending_count gather mover changed_on with_index
movers_count price i [] = omega arith
movers_count price i (vacant ∷ ss) = movers_count price (suc i) ss
movers_count price i (held t ∷ ss) =
    let ih = movers_count price (suc i) ss in
    let both = length-of_side i (side_of t) t (gather (mover price Sell) (suc i) ss)
    (gather (mover price Buy) (suc i) ss) in
    cases (eqb (stop_of (trailed price t)) (stop_of t)) (λ e. rw e (omega arith)) (λ e. rw e (omega arith))

pub point-moves : (kill sells_first : Bool) (price : Price) (b : Book)
    → length (point kill sells_first price b).moved ≤ pending_count b.slots
unfolding point moved_by moved_on
point-moves kill sells_first price b = simp (length-append, length-map, sort_by_length) (movers_count price 1 b.slots)

------------------------------------------------------------------------
-- The records

pub point_records : (kill sells_first : Bool) (price : Price) (b : Book)
    → length (point kill sells_first price b).book.slots ≡ length b.slots
unfolding point
point_records kill sells_first price b = length-map b.slots (settled kill price)
