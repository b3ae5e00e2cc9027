-- A chain of the store that the walk finds formed is that of the book, and the other way.
use Rattle.chains.proofs.OneChain.{linked_distinct, linked_records}
use Prim.Native.Nat.{ℕ, ◌≤◌}
use native.Mathlib.Omega.{arith}
use mathlib.Core.Path.{◌≡◌, sym, ap, ◌∙◌}
use mathlib.Core.Bool.{true}
use mathlib.Core.List.{List}
use lib.Dec.{ltb}
use lib.ListN.{length, get_or}
use Rattle.book.proofs.FreeChain.{VacantFrom, vacant_indices_vacant, pending_count_vacant}
use Rattle.book.proofs.Sort.{sort_by_parts, sort_by_length}
use Rattle.book.proofs.Lists.{all_map, all_map_both}
use Rattle.book.specs.Lists.{All}
use Rattle.book.proofs.ReadBack.{slots_at_length}
use Rattle.book.specs.Valid.{SlotFits}
use Rattle.book.specs.Book.{Slot, Book, chain_side}
use Rattle.book.specs.Words.{chain_indices, slots_at, free_from, vacant_indices, sort_rising, all_differ}
use Rattle.book.specs.declared.Chain.{Chain}
use Rattle.chains.specs.Indices.{ranks_earlier, sort_ranked}
use Rattle.chains.specs.Links.{Linked}
use Rattle.book.specs.Chains.{head_of, link_of, start_of, next_of, group_of, Member}
use Rattle.chains.specs.Rank.{rank_at}
use Rattle.form_check.specs.Check.{group_count, chain_formed}
use Rattle.book.specs.declared.StoreChain.TheVariants.{Ordered, Free}
use Rattle.chains.proofs.Ascents.{Ascending, itself, sort_ranked-within, within-sort_ranked, sort_ranked_ascending, ascending-within, ascending_alike}
use Rattle.form_check.proofs.Groups.{group_member, group_vacant, vacant_group, member_group, member-rank, group_count_members, vacant_indices_ascending, vacant_member, members_ranks}
use Rattle.form_check.proofs.Counts.{group_count_vacants}
use Rattle.chains.proofs.Linked.{linked-free_from}
use Rattle.chains.proofs.Ranked.{rank_in, chain_members}
use Rattle.book.proofs.Members.{members, members_held, held_member}
use Rattle.form_check.proofs.Walks.{InGroup, formed_walked, linked-formed, steps_ascending, ascending-steps, free-steps}

------------------------------------------------------------------------
-- The chains in order

-- a side's records in the order of a chain
unfoldable pub ordered : Chain → List Slot → List ℕ
ordered c ss = sort_ranked (rank_in c ss) (members (chain_side c) 1 ss)

pub chain_ordered : (c : Chain) (b : Book) → All SlotFits b.slots → chain_indices c b ≡ ordered c b.slots
unfolding ordered
chain_ordered c b fits = chain_members c b fits

module _ (c : Chain) (ss : List Slot) where
  pub ordered_members : All (Member (chain_side c) ss) (ordered c ss)
  unfolding ordered
  ordered_members = sort_ranked-within (rank_in c ss) (members (chain_side c) 1 ss) (Member (chain_side c) ss)
      (members_held (chain_side c) ss)

  ordered_length : group_count (group_of (Ordered c)) ss ≡ length (ordered c ss)
  unfolding ordered
  ordered_length = group_count_members (chain_side c) 1 ss
      ∙ sym (sort_by_length (ranks_earlier (rank_in c ss)) (members (chain_side c) 1 ss))

  -- no record of the side is left out
  pub ordered_all : (P : ℕ → Type 0) → All P (ordered c ss) → (j : ℕ) → Member (chain_side c) ss j → P j
  unfolding ordered
  ordered_all P h = held_member P (chain_side c) ss (within-sort_ranked (rank_in c ss) (members (chain_side c) 1 ss) P h)

  module _ (differ : all_differ ss ≡ true) (fits : All SlotFits ss) where
    ordered_ascending : Ascending (rank_in c ss) (ordered c ss)
    unfolding ordered
    ordered_ascending = sort_ranked_ascending (rank_in c ss) (members (chain_side c) 1 ss) (members_ranks c ss differ fits)

module _ (w : List ℕ) (n : ℕ) (differ : all_differ (slots_at w 1 n) ≡ true) (fits : All SlotFits (slots_at w 1 n))
    (c : Chain) where
  pub formed_linked : chain_formed (Ordered c) w n ≡ true → Linked n w (link_of c) (head_of c) (ordered c (slots_at w 1 n))
  unfolding chain_formed
  formed_linked e =
      let ss = slots_at w 1 n in
      let r = formed_walked (Ordered c) w n (group_count (group_of (Ordered c)) ss) (head_of c) 0 e in
      let range = linked_records n (link_of c) w (head_of c) r.list r.linked in
      let members : All (Member (chain_side c) ss) r.list =
      all_map_both {P = λ j. (1 ≤ j) × (j ≤ n)} {Q = InGroup (Ordered c) w}
      (λ j h g. group_member w n j h.0 h.1 c g) r.list range r.in_group in
      let ascending =
      steps_ascending c w r.list
      (all_map {P = λ j. (1 ≤ j) × (j ≤ n)} {Q = λ j. 1 ≤ j} (λ j h. h.0) r.list range) r.steps in
      let by-book = ascending_alike (rank_at c w) (rank_in c ss) r.list
      (all_map (member-rank w n c) r.list members) ascending in
      let same : r.list ≡ ordered c ss =
      (ascending-within (rank_in c ss) r.list (ordered c ss) by-book (ordered_ascending c ss differ fits)
      (λ P h. all_map (ordered_all c ss P h) r.list members)).same
      (r.long ∙ ordered_length c ss) in
      rw same at r.linked

  pub linked-formed-chain : Linked n w (link_of c) (head_of c) (ordered c (slots_at w 1 n))
      → chain_formed (Ordered c) w n ≡ true
  unfolding chain_formed
  linked-formed-chain h =
      let ss = slots_at w 1 n in
      let l = ordered c ss in
      let members = ordered_members c ss in
      let by_words =
      ascending_alike (rank_in c ss)
      (rank_at c w) l (all_map {Q = λ j. rank_in c ss j ≡ rank_at c w j}
      (λ j m. sym (member-rank w n c j m)) l members)
      (ordered_ascending c ss differ fits) in
      rw (ordered_length c ss)
      (linked-formed (Ordered c) w n l (head_of c) 0 h (all_map (member_group w n c) l members)
      (ascending-steps c w 0 l (λ u. absurd (omega arith)) by_words))

------------------------------------------------------------------------
-- The free chain

module _ (w : List ℕ) (n : ℕ) where
  pub record FreeFormed : Type 0 where
    pub linked : Linked n w (next_of Free) (start_of Free) (free_from w n (get_or w (start_of Free) 0))
    pub all_vacant : sort_rising (free_from w n (get_or w (start_of Free) 0)) ≡ vacant_indices 1 (slots_at w 1 n)

  pub formed_free : chain_formed Free w n ≡ true → FreeFormed
  unfolding chain_formed
  formed_free e =
      let ss = slots_at w 1 n in
      let r = formed_walked Free w n (group_count (group_of Free) ss) (start_of Free) 0 e in
      let l = r.list in
      let are-vacant : All (VacantFrom 1 ss) l =
      all_map_both {P = λ j. (1 ≤ j) × (j ≤ n)} {Q = InGroup Free w} (λ j h g. group_vacant w n j h.0 h.1 g) l
      (linked_records n (next_of Free) w (start_of Free) l r.linked) r.in_group in
      let read : free_from w n (get_or w (start_of Free) 0) ≡ l =
      linked-free_from n w n (start_of Free) l r.linked
      (omega (arith, r.long, group_count_vacants 1 ss, pending_count_vacant 1 ss, slots_at_length w 1 n)) in
      let sorted : sort_ranked itself l ≡ vacant_indices 1 ss =
      (ascending-within itself (sort_ranked itself l) (vacant_indices 1 ss)
      (sort_ranked_ascending itself l (linked_distinct n (next_of Free) w (start_of Free) l r.linked))
      (vacant_indices_ascending 1 ss)
      (λ P h. sort_ranked-within itself l P (all_map (vacant_member P 1 ss h) l are-vacant))).same
      (sort_by_length ltb l ∙ r.long ∙ group_count_vacants 1 ss) in
      record { linked = rw read r.linked; all_vacant = rw read sorted }

  pub free-formed : (l : List ℕ) → Linked n w (next_of Free) (start_of Free) l
      → sort_rising l ≡ vacant_indices 1 (slots_at w 1 n) → chain_formed Free w n ≡ true
  unfolding chain_formed
  free-formed l h e =
      let ss = slots_at w 1 n in
      let are-vacant : All (VacantFrom 1 ss) l =
      sort_by_parts ltb (VacantFrom 1 ss) l (rw e (vacant_indices_vacant 1 ss)) in
      let count : group_count (group_of Free) ss ≡ length l =
      group_count_vacants 1 ss ∙ sym (ap length e) ∙ sort_by_length ltb l in
      rw count
      (linked-formed Free w n l (start_of Free) 0 h
      (all_map {Q = InGroup Free w}
      (λ j v. vacant_group w n j v.low (omega (arith, v.high, slots_at_length w 1 n)) v) l are-vacant)
      (free-steps w 0 l))
