-- A book whose stops change but for their identities, sides and sequences: it has the same members, and each chain is
-- the old one sorted anew.
use Prim.Native.Nat.{ℕ, suc, ◌-◌}
use mathlib.Core.Path.{◌≡◌, refl, sym, ap, ◌∙◌}
use mathlib.Core.Bool.{true}
use mathlib.Core.List.{List, [], ◌∷◌, map}
use lib.Dec.{T}
use lib.ListN.{get_or, length-map, get_or-map}
use Rattle.pricelevel.proofs.Bools.{and_parts}
use Rattle.pricelevel.specs.declared.Side.{Side}
use Rattle.pricelevel.specs.declared.Side.TheVariants.{Buy, Sell}
use Rattle.book.proofs.Lists.{every_all, all-every, all_mapped}
use Rattle.book.specs.Valid.{Valid, SlotFits, Fits}
use Rattle.book.specs.Book.{Slot, vacant, held, Book, chain_side, side_of, with_index, gather, of_side, pending_on, indices, pending_count}
use Rattle.book.specs.Lists.{every}
use Rattle.book.specs.Words.{chain_indices, sound_stop, differs, all_differ, vacant_indices}
use Rattle.book.specs.declared.Chain.{Chain}
use Rattle.book.specs.declared.StopEntry.{StopEntry}
use Rattle.chains.proofs.Members.{all-has}
use Rattle.chains.proofs.RankedSort.{has-sort_ranked, sort_ranked_cong}
use Rattle.chains.specs.Indices.{sort_ranked, has, RanksDiffer}
use Rattle.chains.specs.Rank.{rank_at}
use Rattle.chains.proofs.Ascents.{differ_members}
use Rattle.form_check.proofs.Groups.{members_ranks}
use Rattle.chains.proofs.Ranked.{rank_of_slot, rank_in, chain_members}
use Rattle.book.proofs.Members.{members, members_held}
use Rattle.book.specs.Chains.{Member}
use Rattle.pending_stops.proofs.ChainChanges.{chain_member}
use Rattle.pending_stops.specs.Stored.{Contents}
use Rattle.pending_stops.proofs.StoredWords.{contents-rank}
use Rattle.resort.proofs.Insertion.{sort_ranked_again}

-- u is t, but for its terms, and of its side
pub record Same (t u : StopEntry) : Type 0 where
  pub id : u.id ≡ t.id
  pub seq : u.seq ≡ t.seq
  pub side : side_of u ≡ side_of t

-- what a change of the records keeps
pub record Keeps (f : Slot → Slot) : Type 0 where
  pub empty : f vacant ≡ vacant
  pub full : (t : StopEntry) → (u : StopEntry) × (f (held t) ≡ held u) × Same t u

abbrev pub mapped : (Slot → Slot) → Book → Book
mapped f b = record { next = b.next; tick = b.tick; slots = map f b.slots; free = b.free }

module _ (f : Slot → Slot) (k : Keeps f) where
  ------------------------------------------------------------------------
  -- Record by record

  pub slot_mapped : (ss : List Slot) (i : ℕ) → get_or (map f ss) i vacant ≡ f (get_or ss i vacant)
  slot_mapped ss i = rw k.empty at (get_or-map f ss i vacant)

  pub members_mapped : (side : Side) (i : ℕ) (ss : List Slot) → members side i (map f ss) ≡ members side i ss
  unfolding members gather indices with_index pending_on of_side
  members_mapped side i [] = refl
  members_mapped side i (vacant ∷ ss) = rw k.empty (members_mapped side (suc i) ss)
  members_mapped side i (held t ∷ ss) =
      let (u, e, s) = k.full t in
      rw e
      (go side (side_of u) u (members_mapped side (suc i) ss)
      ∙ ap (λ (d : Side). indices (with_index i (of_side side d t) (gather (pending_on side) (suc i) ss))) s.side)
    where
      go : (a d : Side) (u : StopEntry) → members side (suc i) (map f ss) ≡ members side (suc i) ss
          → indices (with_index i (of_side a d u) (gather (pending_on side) (suc i) (map f ss)))
          ≡ indices (with_index i (of_side a d t) (gather (pending_on side) (suc i) ss))
      go Sell Sell u q = ap (λ (l : List ℕ). i ∷ l) q
      go Sell Buy u q = q
      go Buy Sell u q = q
      go Buy Buy u q = ap (λ (l : List ℕ). i ∷ l) q

  pub pending_count_mapped : (ss : List Slot) → pending_count (map f ss) ≡ pending_count ss
  unfolding pending_count
  pending_count_mapped [] = refl
  pending_count_mapped (vacant ∷ ss) = rw k.empty (pending_count_mapped ss)
  pending_count_mapped (held t ∷ ss) = let (u, e, s) = k.full t in rw (e, pending_count_mapped ss)

  vacant_indices_mapped : (i : ℕ) (ss : List Slot) → vacant_indices i (map f ss) ≡ vacant_indices i ss
  unfolding vacant_indices
  vacant_indices_mapped i [] = refl
  vacant_indices_mapped i (vacant ∷ ss) = rw (k.empty, vacant_indices_mapped (suc i) ss)
  vacant_indices_mapped i (held t ∷ ss) = let (u, e, s) = k.full t in rw (e, vacant_indices_mapped (suc i) ss)

  differs_mapped : (t u : StopEntry) → Same t u → (s : Slot) → differs t s ≡ true → differs u (f s) ≡ true
  unfolding differs
  differs_mapped t u q vacant e = rw k.empty
  differs_mapped t u q (held x) e = let (y, g, z) = k.full x in rw (g, q.id, q.seq, z.id, z.seq) e

  all_differ_mapped : (ss : List Slot) → all_differ ss ≡ true → all_differ (map f ss) ≡ true
  unfolding all_differ
  all_differ_mapped [] e = refl
  all_differ_mapped (vacant ∷ ss) e = rw k.empty (all_differ_mapped ss e)
  all_differ_mapped (held t ∷ ss) e =
      let (u, g, s) = k.full t in
      let h = and_parts (every (differs t) ss) _ e in
      rw (
        g,
        all-every (differs u) (map f ss)
            (all_mapped (λ x. differs t x ≡ true)
            (λ x. differs u x ≡ true) f (differs_mapped t u s) ss (every_all (differs t) ss h.0)),
      ) (all_differ_mapped ss h.1)

  ------------------------------------------------------------------------
  -- The book

  pub mapped-valid : (b : Book)
      → ((s : Slot) → sound_stop b.next b.tick s ≡ true → sound_stop b.next b.tick (f s) ≡ true)
      → Valid b → Valid (mapped f b)
  mapped-valid b sound v = record {
    some_records = rw length-map v.some_records;
    few_records = rw length-map v.few_records;
    sound = all_mapped (λ s. sound_stop b.next b.tick s ≡ true)
        (λ s. sound_stop b.next b.tick s ≡ true) f sound b.slots v.sound;
    differ = all_differ_mapped b.slots v.differ;
    free_vacant = v.free_vacant ∙ sym (vacant_indices_mapped 1 b.slots);
  }

  pub mapped_fits : (b : Book) → ((s : Slot) → SlotFits s → SlotFits (f s)) → Fits b → Fits (mapped f b)
  mapped_fits b fits h = record {
    next = h.next;
    tick = h.tick;
    slots = all_mapped SlotFits SlotFits f fits b.slots h.slots;
  }

  module _ (b : Book) (bf : Fits b) (v : Valid (mapped f b)) (mf : Fits (mapped f b)) (c : Chain) where
    abbrev here : List ℕ
    here = members (chain_side c) 1 b.slots

    abbrev ranked : ℕ → ℕ
    ranked = rank_in c (map f b.slots)

    differ : RanksDiffer ranked here
    differ =
        rw members_mapped at
        (differ_members ranked (members (chain_side c) 1 (map f b.slots))
        (members_ranks c (map f b.slots) v.differ mf.slots))

    pub resorts : RanksDiffer ranked (chain_indices c b)
    resorts i j hi hj = differ i j (rw (chain_members c b bf.slots, has-sort_ranked) at hi)
        (rw (chain_members c b bf.slots, has-sort_ranked) at hj)

    -- a chain, sorted anew
    pub resorted : sort_ranked ranked (chain_indices c b) ≡ chain_indices c (mapped f b)
    resorted =
        rw (chain_members c b bf.slots, chain_members c (mapped f b) mf.slots, members_mapped)
        (sort_ranked_again ranked (rank_in c b.slots) here differ)

    -- a chain of stops that stay
    pub unmoved : ((t : StopEntry) → chain_side c ≡ side_of t → f (held t) ≡ held t)
        → chain_indices c b ≡ chain_indices c (mapped f b)
    unmoved h =
        rw (chain_members c b bf.slots, chain_members c (mapped f b) mf.slots, members_mapped)
        (sort_ranked_cong (rank_in c b.slots) ranked here
        (λ j t.
        let m = all-has (Member (chain_side c) b.slots) here (members_held (chain_side c) b.slots) j t in
        ap (rank_of_slot c) (m.there ∙ sym (h m.entry m.is_of_side) ∙ sym (ap f m.there)
        ∙ sym (slot_mapped b.slots (j - 1)))))

    ------------------------------------------------------------------------
    -- By words that hold the new stops

    module _ {n : ℕ} {w : List ℕ} {count next tick : ℕ} {r : List ℕ}
        (h : Contents n w count next tick (map f b.slots) r) where
      rank_words : (j : ℕ) → T (has j (chain_indices c b)) → rank_at c w j ≡ ranked j
      rank_words j t =
          let m = chain_member c b bf j t in
          let (u, e, s) = k.full m.entry in
          contents-rank h c j u m.from (rw (← h.records, length-map) m.to)
          (slot_mapped b.slots (j - 1) ∙ ap f m.there ∙ e)

      pub words_differ : RanksDiffer (rank_at c w) (chain_indices c b)
      words_differ i j hi hj e = resorts i j hi hj (sym (rank_words i hi) ∙ e ∙ rank_words j hj)

      pub words_resorted : sort_ranked (rank_at c w) (chain_indices c b) ≡ chain_indices c (mapped f b)
      words_resorted = sort_ranked_cong (rank_at c w) ranked (chain_indices c b) rank_words ∙ resorted
