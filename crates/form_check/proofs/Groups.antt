-- The records that a chain is to hold: those of its group are the members of a side, or the vacant ones, and there are
-- as many.
use Prim.Native.Nat.{ℕ, suc, ◌+◌, ◌-◌, ◌*◌, ◌^◌, ◌≤◌, ◌<◌}
use native.Mathlib.Omega.{arith}
use mathlib.Core.Path.{◌≡◌, refl, sym, ap, ◌∙◌}
use mathlib.Core.Logic.{◌≢◌}
use mathlib.Core.Bool.{true, cond}
use mathlib.Core.List.{List, [], ◌∷◌}
use borrow.Author.Tests.{eqb-true, eqb-false}
use borrow.Table.Steps.{cases}
use lib.Dec.{eqb}
use lib.ListN.{length, get_or, set}
use lib.Seq.{get_or-set_other}
use Rattle.pricelevel.specs.Side.{side_number}
use Rattle.pricelevel.specs.declared.Side.{Side}
use Rattle.pricelevel.specs.declared.Side.TheVariants.{Buy, Sell}
use Rattle.book.proofs.Differences.{SlotsDiffer, slots_differ_vacant, differs_parts, all_differ_others}
use Rattle.book.proofs.FreeChain.{VacantFrom, vacant_indices_vacant}
use Rattle.book.proofs.Sort.{Pairwise, Distinct}
use Rattle.book.proofs.Lists.{all_map, all_map_both, all_get_d}
use Rattle.book.specs.Lists.{All}
use Rattle.book.proofs.ReadBack.{slots_at_length}
use Rattle.book.specs.Valid.{StopFits, SlotFits}
use Rattle.book.specs.Book.{Slot, vacant, held, chain_side, side_of, stop_of, watermark_of, seq_of, with_index, gather, of_side, pending_on, indices}
use Rattle.book.specs.Words.{slot_at, slots_at, vacant_indices, all_differ}
use Rattle.book.specs.declared.Chain.{Chain}
use Rattle.book.specs.declared.Chain.TheVariants.{ByStop, ByWatermark}
use Rattle.book.specs.declared.StopEntry.{StopEntry}
use Rattle.chains.specs.Rank.{top, rank, rank_at}
use Rattle.form_check.specs.Check.{group_count}
use Rattle.book.specs.declared.StoreChain.TheVariants.{Ordered, Free}
use Rattle.chains.proofs.Ascents.{Ascending, Apart, itself}
use Rattle.chains.proofs.Ranked.{rank_in}
use Rattle.book.proofs.Members.{members, members_held, members_distinct}
use Rattle.book.specs.Chains.{Member, slot_group}
use Rattle.book.proofs.Slots.{slot_at_entry, slots_at_record}
use Rattle.form_check.proofs.Walks.{InGroup}

side_number_same : (a b : Side) → side_number a ≡ side_number b → a ≡ b
side_number_same Buy Buy e = refl
side_number_same Buy Sell e = absurd (omega arith)
side_number_same Sell Buy e = absurd (omega arith)
side_number_same Sell Sell e = refl

side_number_less : (a : Side) → side_number a < 2
side_number_less Buy = omega arith
side_number_less Sell = omega arith

------------------------------------------------------------------------
-- A record by its group

module _ (w : List ℕ) (n j : ℕ) (low : 1 ≤ j) (high : j ≤ n) where
  there : get_or (slots_at w 1 n) (j - 1) vacant ≡ slot_at w j
  there = slots_at_record w n j low high

  pub group_member : (c : Chain) → InGroup (Ordered c) w j → Member (chain_side c) (slots_at w 1 n) j
  group_member c e = go (slot_at w j) refl
    where
      go : (s : Slot) → slot_at w j ≡ s → Member (chain_side c) (slots_at w 1 n) j
      go vacant q = absurd (omega (arith, side_number_less (chain_side c), rw q at e))
      go (held t) q = record {
        from = low;
        to = omega (arith, slots_at_length w 1 n);
        entry = t;
        there = there ∙ q;
        is_of_side = sym (side_number_same (side_of t) (chain_side c) (rw q at e));
      }

  pub group_vacant : InGroup Free w j → VacantFrom 1 (slots_at w 1 n) j
  group_vacant e = go (slot_at w j) refl
    where
      go : (s : Slot) → slot_at w j ≡ s → VacantFrom 1 (slots_at w 1 n) j
      go vacant q = record { low = low; high = omega (arith, slots_at_length w 1 n); is_vacant = there ∙ q }
      go (held t) q = absurd (omega (arith, side_number_less (side_of t), rw q at e))

  pub vacant_group : VacantFrom 1 (slots_at w 1 n) j → InGroup Free w j
  vacant_group h = rw (sym there ∙ h.is_vacant)

module _ (w : List ℕ) (n : ℕ) (c : Chain) (j : ℕ) (m : Member (chain_side c) (slots_at w 1 n) j) where
  pub member_most : j ≤ n
  member_most = omega (arith, m.to, slots_at_length w 1 n)

  pub member_slot : slot_at w j ≡ held m.entry
  member_slot = sym (slots_at_record w n j m.from member_most) ∙ m.there

  pub member_group : InGroup (Ordered c) w j
  member_group = rw member_slot (ap side_number (sym m.is_of_side))

  -- its rank by its words is that by the book
  pub member-rank : rank_at c w j ≡ rank_in c (slots_at w 1 n) j
  unfolding rank_at
  member-rank = rw (m.there, slot_at_entry w j m.entry member_slot)

------------------------------------------------------------------------
-- How many there are

members_length : (side : Side) (i : ℕ) (s : Slot) (ss : List Slot)
    → length (members side i (s ∷ ss)) ≡ cond (eqb (slot_group s) (side_number side)) 1 0 + length
    (members side (suc i) ss)
unfolding members gather with_index pending_on of_side indices
members_length side i vacant ss = go side
  where
    go : (a : Side) → length (members side (suc i) ss) ≡ cond (eqb 2 (side_number a)) 1 0 + length
        (members side (suc i) ss)
    go Buy = omega arith
    go Sell = omega arith
members_length side i (held t) ss = go side (side_of t)
  where
    go : (a b : Side)
        → length (indices (with_index i (of_side a b t) (gather (pending_on side) (suc i) ss))) ≡ cond
        (eqb (side_number b) (side_number a)) 1 0 + length (members side (suc i) ss)
    go Buy Buy = omega arith
    go Buy Sell = omega arith
    go Sell Buy = omega arith
    go Sell Sell = omega arith

members_none : (side : Side) (i : ℕ) → length (members side i []) ≡ 0
unfolding members gather indices
members_none side i = refl

pub group_count_members : (side : Side) (i : ℕ) (ss : List Slot)
    → group_count (side_number side) ss ≡ length (members side i ss)
unfolding group_count
group_count_members side i [] = sym (members_none side i)
group_count_members side i (s ∷ ss) = rw (group_count_members side (suc i) ss) (sym (members_length side i s ss))

------------------------------------------------------------------------
-- The vacant records rise, and none is left out

pub vacant_indices_ascending : (i : ℕ) (ss : List Slot) → Ascending itself (vacant_indices i ss)
unfolding vacant_indices
vacant_indices_ascending i [] = tt
vacant_indices_ascending i (vacant ∷ ss) = (
  all_map {P = VacantFrom (suc i) ss} {Q = λ j. i < j} (λ j h. h.low) (vacant_indices (suc i) ss)
      (vacant_indices_vacant (suc i) ss),
  vacant_indices_ascending (suc i) ss,
)
vacant_indices_ascending i (held t ∷ ss) = vacant_indices_ascending (suc i) ss

vacant_from_later : (i : ℕ) (s : Slot) (ss : List Slot) (j : ℕ) → j ≢ i → VacantFrom i (s ∷ ss) j
    → VacantFrom (suc i) ss j
vacant_from_later i s ss j n v =
    let e : j - i ≡ suc (j - suc i) = omega (arith, v.low) in
    record { low = omega (arith, v.low); high = omega (arith, v.high); is_vacant = rw e at v.is_vacant }

held_not_vacant : (i : ℕ) (t : StopEntry) (ss : List Slot) (j : ℕ) → VacantFrom i (held t ∷ ss) j → j ≢ i
held_not_vacant i t ss j v e =
    let z : j - i ≡ 0 = omega arith in
    let q : held t ≡ vacant = rw z at v.is_vacant in
    let x : ◌≡◌ {A = ℕ} 0 1 = cc in
    omega arith

-- what holds of all their indices holds of the index of a vacant record
pub vacant_member : (P : ℕ → Type 0) (i : ℕ) (ss : List Slot) → All P (vacant_indices i ss) → (j : ℕ)
    → VacantFrom i ss j → P j
unfolding vacant_indices
vacant_member P i [] h j v = absurd (omega (arith, v.low, v.high))
vacant_member P i (vacant ∷ ss) h j v = cases (eqb j i)
    (λ e. rw (eqb-true j i e) h.0)
    (λ e. vacant_member P (suc i) ss h.1 j (vacant_from_later i vacant ss j (eqb-false j i e) v))
vacant_member P i (held t ∷ ss) h j v =
    vacant_member P (suc i) ss h j (vacant_from_later i (held t) ss j (held_not_vacant i t ss j v) v)

------------------------------------------------------------------------
-- The ranks of a side's stops differ

low_part : (a b c d : ℕ) → b < 2 ^ 64 → d < 2 ^ 64 → a * 2 ^ 64 + b ≡ c * 2 ^ 64 + d → b ≡ d
low_part a b c d hb hd e = omega arith

rank_seq : (c : Chain) (t u : StopEntry) → StopFits t → StopFits u → rank c t ≡ rank c u → seq_of t ≡ seq_of u
unfolding rank
rank_seq (ByStop Sell) t u f g e = low_part (top - stop_of t) (seq_of t) (top - stop_of u) (seq_of u) f.seq g.seq e
rank_seq (ByStop Buy) t u f g e = low_part (stop_of t) (seq_of t) (stop_of u) (seq_of u) f.seq g.seq e
rank_seq (ByWatermark Sell) t u f g e = low_part (watermark_of t) (seq_of t) (watermark_of u) (seq_of u) f.seq g.seq e
rank_seq (ByWatermark Buy) t u f g e =
    let q = low_part (top - watermark_of t) (top - seq_of t) (top - watermark_of u) (top - seq_of u)
    (omega (arith, f.seq)) (omega (arith, g.seq)) e in
    omega (arith, f.seq, g.seq)

seqs_differ : (ss : List Slot) (k m : ℕ) (t u : StopEntry) → all_differ ss ≡ true → k ≢ m → get_or ss k vacant ≡ held t
    → get_or ss m vacant ≡ held u
    → seq_of t ≡ seq_of u → ⊥
seqs_differ ss k m t u e n et eu =
    let d = all_get_d (SlotsDiffer (get_or ss k vacant))
    (set ss k vacant) m vacant (slots_differ_vacant (get_or ss k vacant)) (all_differ_others ss k e) in
    let d' : SlotsDiffer (held t) (held u) = rw (get_or-set_other ss k m vacant vacant (λ q. n (sym q)), et, eu) at d in
    (differs_parts t u d').1

ranks-apart : (rk : ℕ → ℕ) (P : ℕ → Type 0) → ((i j : ℕ) → P i → P j → i ≢ j → Apart rk i j) → (l : List ℕ) → All P l
    → Distinct l → Pairwise (Apart rk) l
ranks-apart rk P f [] h d = tt
ranks-apart rk P f (i ∷ l) h d = (
  all_map_both {P = P} {Q = λ j. i ≢ j} {R = Apart rk i} (λ j p n. f i j h.0 p n) l h.1 d.0,
  ranks-apart rk P f l h.1 d.1,
)

pub members_ranks : (c : Chain) (ss : List Slot) → all_differ ss ≡ true → All SlotFits ss
    → Pairwise (Apart (rank_in c ss)) (members (chain_side c) 1 ss)
members_ranks c ss e f =
    ranks-apart (rank_in c ss) (Member (chain_side c) ss) apart (members (chain_side c) 1 ss)
    (members_held (chain_side c) ss) (members_distinct (chain_side c) 1 ss)
  where
    fits : (i : ℕ) (m : Member (chain_side c) ss i) → StopFits m.entry
    fits i m = rw m.there at (all_get_d SlotFits ss (i - 1) vacant tt f)

    apart : (i j : ℕ) → Member (chain_side c) ss i → Member (chain_side c) ss j → i ≢ j → rank_in c ss i ≡ rank_in c ss j
        → ⊥
    apart i j m k n q =
        seqs_differ ss (i - 1) (j - 1) m.entry k.entry e (λ x. n (omega (arith, m.from, k.from))) m.there
        k.there
        (rank_seq c m.entry k.entry (fits i m) (fits j k) (rw (m.there, k.there) at q))
