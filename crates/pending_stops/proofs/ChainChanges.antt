-- What becomes of the chains when a record changes: a stop that leaves goes out of the two chains of its side, and one
-- that comes goes in at its rank.
use Prim.Native.Nat.{ℕ, zero, suc, ◌+◌, ◌-◌, ◌≤◌}
use native.Mathlib.Omega.{arith}
use native.Mathlib.Nat.{add-zero, add-suc, suc-add}
use mathlib.Core.Path.{◌≡◌, sym, ap, ◌∙◌}
use mathlib.Core.Logic.{◌≢◌}
use mathlib.Core.List.{List, [], ◌∷◌}
use borrow.Table.Steps.{cases}
use lib.Dec.{T}
use lib.ListN.{get_or, set, length-set}
use lib.Seq.{get_or-set_same, get_or-set_other}
use Rattle.pricelevel.specs.declared.Side.{Side}
use Rattle.book.proofs.Lists.{all_mapped}
use Rattle.book.proofs.Lookup.{Gathered, gather_gathered}
use Rattle.book.proofs.Operations.{vacated_fits}
use Rattle.book.specs.Valid.{Valid, Fits}
use Rattle.book.specs.Book.{Slot, vacant, held, Book, chain_side, side_of, with_index, gather, pending_on, indices}
use Rattle.book.specs.Store.{vacated}
use Rattle.book.specs.Words.{chain_indices}
use Rattle.book.specs.declared.Chain.{Chain}
use Rattle.book.specs.declared.StopEntry.{StopEntry}
use Rattle.chains.proofs.Members.{has_none, has_all, all-has, has-remove, remove_here, remove_there, remove_absent}
use Rattle.chains.proofs.RankedSort.{has-sort_ranked, sort_ranked_out, sort_ranked_cong, remove-insert_ranked}
use Rattle.chains.specs.Indices.{insert_ranked, sort_ranked, remove, has, RanksDiffer}
use Rattle.chains.proofs.Ascents.{differ_members}
use Rattle.form_check.proofs.Groups.{members_ranks}
use Rattle.chains.proofs.Ranked.{rank_of_slot, rank_in, chain_members}
use Rattle.book.proofs.Members.{members, members_held, held_member}
use Rattle.book.specs.Chains.{Member}
use Rattle.std.specs.Prelude.{None, Option, Some}

------------------------------------------------------------------------
-- The members of a side

members_from : (side : Side) (i : ℕ) (ss : List Slot) (j : ℕ) → T (has j (members side i ss)) → i ≤ j
unfolding members indices
members_from side i ss j h =
    all-has (λ j. i ≤ j) (members side i ss)
    (all_mapped (Gathered (pending_on side) i ss) (λ j. i ≤ j) (λ p. p.index) (λ p g. g.from)
    (gather (pending_on side) i ss) (gather_gathered (pending_on side) i ss))
    j h

-- a record is vacated: its index goes
members-vacated : (side : Side) (i : ℕ) (ss : List Slot) (k : ℕ)
    → members side i (set ss k vacant) ≡ remove (i + k) (members side i ss)
unfolding members gather indices with_index pending_on
members-vacated side i [] k = sym (remove_absent (i + k) [] (has_none (i + k)))
members-vacated side i (s ∷ ss) zero = rw add-zero (go (pending_on side s))
  where
    go : (o : Option StopEntry)
        → members side (suc i) ss ≡ remove i (indices (with_index i o (gather (pending_on side) (suc i) ss)))
    go None = sym (remove_absent i (members side (suc i) ss) (λ h. omega (arith, members_from side (suc i) ss i h)))
    go (Some t) = sym (remove_here i (members side (suc i) ss))
members-vacated side i (s ∷ ss) (suc k) =
    go (pending_on side s) (rw (suc-add, ← add-suc) at (members-vacated side (suc i) ss k))
  where
    go : (o : Option StopEntry) → members side (suc i) (set ss k vacant) ≡ remove (i + suc k) (members side (suc i) ss)
        → indices (with_index i o (gather (pending_on side) (suc i) (set ss k vacant))) ≡ remove (i + suc k)
        (indices (with_index i o (gather (pending_on side) (suc i) ss)))
    go None e = e
    go (Some t) e = rw (remove_there (i + suc k) i (members side (suc i) ss) (omega arith))
        (ap (λ (l : List ℕ). i ∷ l) e)

has_member : (side : Side) (ss : List Slot) (i : ℕ) → T (has i (members side 1 ss)) → Member side ss i
has_member side ss i h = all-has (Member side ss) (members side 1 ss) (members_held side ss) i h

member-has : (side : Side) (ss : List Slot) (i : ℕ) → Member side ss i → T (has i (members side 1 ss))
member-has side ss i m =
    held_member (λ j. T (has j (members side 1 ss))) side ss
    (has_all (λ j. T (has j (members side 1 ss))) (members side 1 ss) (λ j h. h)) i m

-- a vacant record is no member
vacant_absent : (side : Side) (ss : List Slot) (i : ℕ) → Member side (set ss (i - 1) vacant) i → ⊥
vacant_absent side ss i m =
    let e : get_or (set ss (i - 1) vacant) (i - 1) vacant ≡ vacant =
    get_or-set_same ss (i - 1) vacant vacant (omega (arith, m.from, rw length-set at m.to)) in
    let h = m.there in
    let z : ◌≡◌ {A = ℕ} 0 1 = cc in
    omega arith

------------------------------------------------------------------------
-- The ranks of stops differ

ranks_differ : (c : Chain) (b : Book) → Valid b → Fits b
    → RanksDiffer (rank_in c b.slots) (members (chain_side c) 1 b.slots)
ranks_differ c b v f =
    differ_members (rank_in c b.slots) (members (chain_side c) 1 b.slots)
    (members_ranks c b.slots v.differ f.slots)

------------------------------------------------------------------------
-- Records in chains

module _ (c : Chain) (b : Book) (f : Fits b) (i : ℕ) where
  pub chain_member : T (has i (chain_indices c b)) → Member (chain_side c) b.slots i
  chain_member h =
      has_member (chain_side c) b.slots i (rw (chain_members c b f.slots, has-sort_ranked) at h)

  pub member-chain : Member (chain_side c) b.slots i → T (has i (chain_indices c b))
  member-chain m = rw (chain_members c b f.slots, has-sort_ranked) (member-has (chain_side c) b.slots i m)

-- a vacated record is in no chain
pub vacated_absent : (c : Chain) (b : Book) (f : Fits b) (i : ℕ) → T (has i (chain_indices c (vacated i b))) → ⊥
unfolding vacated
vacated_absent c b f i h =
    vacant_absent (chain_side c) b.slots i (chain_member c (vacated i b) (vacated_fits i b f) i h)

------------------------------------------------------------------------
-- One record changes

module _ (c : Chain) (b : Book) (v : Valid b) (f : Fits b) (i : ℕ) (from : 1 ≤ i) where
  abbrev here : List ℕ
  here = members (chain_side c) 1 b.slots

  abbrev ranked : ℕ → ℕ
  ranked = rank_in c b.slots

  members_out : members (chain_side c) 1 (set b.slots (i - 1) vacant) ≡ remove i here
  members_out = let e : 1 + (i - 1) ≡ i = omega arith in rw e at (members-vacated (chain_side c) 1 b.slots (i - 1))

  out_absent : T (has i (remove i here)) → ⊥
  out_absent h = vacant_absent (chain_side c)
      b.slots i (has_member (chain_side c) (set b.slots (i - 1) vacant) i (rw members_out h))

  out-chain : chain_indices c (vacated i b) ≡ sort_ranked ranked (remove i here)
  unfolding vacated
  out-chain =
      rw (chain_members c (vacated i b) (vacated_fits i b f).slots, members_out)
      (sort_ranked_cong (rank_in c (set b.slots (i - 1) vacant)) ranked (remove i here) same)
    where
      same : (j : ℕ) → T (has j (remove i here)) → rank_in c (set b.slots (i - 1) vacant) j ≡ ranked j
      same j h =
          let m = has_member (chain_side c) b.slots j (has-remove j i here h) in
          ap (rank_of_slot c)
          (get_or-set_other b.slots (i - 1) (j - 1) vacant vacant
          (λ e. let q : j ≡ i = omega (arith, m.from) in out_absent (rw q at h)))

  -- a record is vacated: each chain loses it
  pub chain_out : chain_indices c (vacated i b) ≡ remove i (chain_indices c b)
  chain_out = out-chain ∙ rw (chain_members c b f.slots) (cases (has i here)
      (λ e.
      rw (sort_ranked_out ranked i here (rw e tt) (ranks_differ c b v f))
      (sym (remove-insert_ranked ranked i (sort_ranked ranked (remove i here))
      (λ h. out_absent (rw (has-sort_ranked ranked i (remove i here)) at h)))))
      (λ e.
      rw (remove_absent i here (λ h. rw e at h))
      (sym (remove_absent i (sort_ranked ranked here) (λ h. rw (has-sort_ranked ranked i here, e) at h)))))

  -- a stop is in the chains of its side at its rank
  pub chain_in : Member (chain_side c) b.slots i
      → chain_indices c b ≡ insert_ranked (rank_in c b.slots) i (chain_indices c (vacated i b))
  chain_in m =
      chain_members c b f.slots
      ∙ sort_ranked_out ranked i here (member-has (chain_side c) b.slots i m) (ranks_differ c b v f)
      ∙ ap (insert_ranked ranked i) (sym out-chain)

  -- and in no other
  pub chain-other : (t : StopEntry) → get_or b.slots (i - 1) vacant ≡ held t → chain_side c ≢ side_of t
      → chain_indices c (vacated i b) ≡ chain_indices c b
  chain-other t e n = chain_out ∙ remove_absent i (chain_indices c b) (λ h. n (is_of_side (chain_member c b f i h)))
    where
      is_of_side : Member (chain_side c) b.slots i → chain_side c ≡ side_of t
      is_of_side m = let q : m.entry ≡ t = go m.there in m.is_of_side ∙ ap (λ (u : StopEntry). side_of u) q
        where
          go : {u : StopEntry} → get_or b.slots (i - 1) vacant ≡ held u → u ≡ t
          go h = cc
