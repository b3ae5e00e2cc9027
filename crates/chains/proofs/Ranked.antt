-- A chain as the indices of a side's stops in the order of a rank.
use Prim.Native.Nat.{ℕ, ◌-◌}
use mathlib.Core.Path.{◌≡◌}
use mathlib.Core.List.{List}
use lib.ListN.{get_or}
use Rattle.book.proofs.Members.{members, gathered_held}
use Rattle.book.proofs.Sort.{map-sort_by}
use Rattle.book.proofs.Lists.{all_map, all_get_d}
use Rattle.book.proofs.Lookup.{Gathered, gather_gathered}
use Rattle.book.specs.Valid.{StopFits, SlotFits}
use Rattle.book.specs.Book.{Slot, vacant, held, Book, chain_side, Pending, gather, sort, pending_on, chain, indices, earlier_in}
use Rattle.book.specs.Words.{chain_indices}
use Rattle.book.specs.declared.Chain.{Chain}
use Rattle.chains.proofs.Ranks.{before-rank}
use Rattle.chains.specs.Indices.{ranks_earlier, sort_ranked}
use Rattle.chains.specs.Rank.{rank}
use Rattle.book.specs.Lists.{All}

-- the rank of the stop that record i holds
abbrev pub rank_of_slot : Chain → Slot → ℕ
rank_of_slot c vacant = 0
rank_of_slot c (held t) = rank c t

abbrev pub rank_in : Chain → List Slot → ℕ → ℕ
rank_in c ss i = rank_of_slot c (get_or ss (i - 1) vacant)

------------------------------------------------------------------------
-- A chain's order is that of its rank

module _ (c : Chain) (rk : ℕ → ℕ) where
  -- the stop's numbers are words, and its rank is that of its index
  record Ranked (p : Pending) : Type 0 where
    fits : StopFits p.entry
    ranked : rk p.index ≡ rank c p.entry

  sort-indices : (l : List Pending) → All Ranked l → indices (sort c l) ≡ sort_ranked rk (indices l)
  unfolding indices
  sort-indices =
      map-sort_by Ranked (λ p. p.index) (earlier_in c) (ranks_earlier rk)
      (λ x y r q. rw (r.ranked, q.ranked) (before-rank c x.entry y.entry r.fits q.fits))

-- the bridge: of a book whose numbers are words
pub chain_members : (c : Chain) (b : Book) → All SlotFits b.slots
    → chain_indices c b ≡ sort_ranked (rank_in c b.slots) (members (chain_side c) 1 b.slots)
unfolding chain_indices chain members
chain_members c b f =
    sort-indices c (rank_in c b.slots) (gather (pending_on (chain_side c)) 1 b.slots)
    (all_map ranked (gather (pending_on (chain_side c)) 1 b.slots)
    (gather_gathered (pending_on (chain_side c)) 1 b.slots))
  where
    ranked : (p : Pending) → Gathered (pending_on (chain_side c)) 1 b.slots p → Ranked c (rank_in c b.slots) p
    ranked p g =
        let there = gathered_held (chain_side c) b.slots p g in
        record { fits = rw there at (all_get_d SlotFits b.slots (p.index - 1) vacant tt f); ranked = rw there }
