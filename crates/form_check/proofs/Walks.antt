-- A walk along a chain of a store: turn by turn, and against the chain that it walked.
use Prim.Native.Nat.{ℕ, zero, suc, ◌-◌, ◌≤◌, ◌<◌}
use native.Mathlib.Omega.{arith}
use mathlib.Core.Path.{◌≡◌, refl, ap, ◌∙◌}
use mathlib.Core.Bool.{Bool, true, ◌&&◌}
use mathlib.Core.List.{List, [], ◌∷◌}
use borrow.Author.Tests.{ltb-true, lt-ltb, leb-true, le-leb, eqb-true, eq-eqb, ne_eqb}
use lib.Dec.{leb, eqb}
use lib.ListN.{length, get_or}
use Rattle.pricelevel.proofs.Bools.{and_parts}
use Rattle.pricelevel.specs.declared.Side.TheVariants.{Buy, Sell}
use Rattle.book.proofs.Lists.{all_map}
use Rattle.book.specs.Lists.{All}
use Rattle.book.specs.Words.{cell, slot_at, slots_at}
use Rattle.book.specs.Sizes.{header_length, record_length}
use Rattle.book.specs.declared.Chain.{Chain}
use Rattle.book.specs.declared.Chain.TheVariants.{ByStop, ByWatermark}
use Rattle.chains.specs.Links.{Linked}
use Rattle.chains.specs.Rank.{rank_at}
use Rattle.form_check.specs.Check.{group_count, may_follow, walk_formed, chain_formed}
use Rattle.book.specs.Chains.{start_of, next_of, group_of, slot_group}
use Rattle.book.specs.declared.StoreChain.{StoreChain}
use Rattle.book.specs.declared.StoreChain.TheVariants.{Ordered, Free}
use Rattle.chains.proofs.Ascents.{Ascending}

------------------------------------------------------------------------
-- A turn

module _ (k : StoreChain) (w : List ℕ) (n left p q : ℕ) (whole : Bool) (inv : whole ≡ walk_formed k w n left p q) where
  pub walk_end : left ≤ 0 → whole ≡ eqb (get_or w p 0) 0
  unfolding walk_formed
  walk_end h = inv ∙ go left h
    where
      go : (left : ℕ) → left ≤ 0 → walk_formed k w n left p q ≡ eqb (get_or w p 0) 0
      go zero h = refl
      go (suc left) h = absurd (omega arith)

  pub walk_step : 0 < left → whole
      ≡ (leb 1 (get_or w p 0)
      && (leb (get_or w p 0) n
      && (eqb (slot_group (slot_at w (get_or w p 0))) (group_of k)
      && (may_follow k w q (get_or w p 0) && walk_formed k w n (left - 1) (cell (get_or w p 0) (next_of k)) (get_or w p 0)))))
  unfolding walk_formed
  walk_step h = inv ∙ go left h
    where
      go : (left : ℕ) → 0 < left → walk_formed k w n left p q
          ≡ (leb 1 (get_or w p 0)
          && (leb (get_or w p 0) n
          && (eqb (slot_group (slot_at w (get_or w p 0))) (group_of k)
          && (may_follow k w q (get_or w p 0) && walk_formed k w n (left - 1) (cell (get_or w p 0) (next_of k))
          (get_or w p 0)))))
      go zero h = absurd (omega arith)
      go (suc left) h = let e : suc left - 1 ≡ left = omega arith in rw e

pub start_of-header : (k : StoreChain) → start_of k < header_length
start_of-header (Ordered (ByStop Sell)) = omega arith
start_of-header (Ordered (ByWatermark Sell)) = omega arith
start_of-header (Ordered (ByStop Buy)) = omega arith
start_of-header (Ordered (ByWatermark Buy)) = omega arith
start_of-header Free = omega arith

pub next_of_record : (k : StoreChain) → next_of k < record_length
next_of_record (Ordered (ByStop side)) = omega arith
next_of_record (Ordered (ByWatermark side)) = omega arith
next_of_record Free = omega arith

-- a walk that takes as many steps as there are records of the group is the whole test of the chain
pub chain-counted : (k : StoreChain) (w : List ℕ) (n count : ℕ) (r : Bool)
    → count ≡ group_count (group_of k) (slots_at w 1 n)
    → r ≡ walk_formed k w n count (start_of k) 0 → r ≡ chain_formed k w n
unfolding chain_formed
chain-counted k w n count r e h = rw (← e) h

------------------------------------------------------------------------
-- The chain that was walked

-- each may follow the one before it, the first q
abbrev pub Steps : StoreChain → List ℕ → ℕ → List ℕ → Type 0
Steps k w q [] = Unit {0}
Steps k w q (j ∷ l) = (may_follow k w q j ≡ true) × Steps k w j l

-- record j is one of those that the chain holds
abbrev pub InGroup : StoreChain → List ℕ → ℕ → Type 0
InGroup k w j = slot_group (slot_at w j) ≡ group_of k

module _ (k : StoreChain) (w : List ℕ) (n : ℕ) where
  pub record Walked (f p q : ℕ) : Type 0 where
    pub list : List ℕ
    pub linked : Linked n w (next_of k) p list
    pub long : length list ≡ f
    pub in_group : All (InGroup k w) list
    pub steps : Steps k w q list

  pub formed_walked : (f p q : ℕ) → walk_formed k w n f p q ≡ true → Walked f p q
  unfolding walk_formed
  formed_walked zero p q e = record {
    list = [];
    linked = eqb-true (get_or w p 0) 0 e;
    long = refl;
    in_group = tt;
    steps = tt;
  }
  formed_walked (suc f) p q e =
      let j = get_or w p 0 in
      let some = and_parts (leb 1 j) _ e in
      let few = and_parts (leb j n) _ some.1 in
      let group = and_parts (eqb (slot_group (slot_at w j)) (group_of k)) _ few.1 in
      let step = and_parts (may_follow k w q j) _ group.1 in
      let rest = formed_walked f (cell j (next_of k)) j step.1 in
      record {
        list = j ∷ rest.list;
        linked = (refl, leb-true 1 j some.0, leb-true j n few.0, rest.linked);
        long = ap suc rest.long;
        in_group = (eqb-true _ _ group.0, rest.in_group);
        steps = (step.0, rest.steps);
      }

  pub linked-formed : (l : List ℕ) (p q : ℕ) → Linked n w (next_of k) p l → All (InGroup k w) l → Steps k w q l
      → walk_formed k w n (length l) p q ≡ true
  unfolding walk_formed
  linked-formed [] p q c g s = eq-eqb (get_or w p 0) 0 c
  linked-formed (j ∷ l) p q c g s =
      rw (c.0, le-leb 1 j c.1, le-leb j n c.2, eq-eqb (slot_group (slot_at w j)) (group_of k) g.0, s.0)
      (linked-formed l (cell j (next_of k)) j c.3 g.1 s.1)

------------------------------------------------------------------------
-- The steps of a chain in order ascend in its rank

module _ (c : Chain) (w : List ℕ) where
  step_above : (q j : ℕ) → 1 ≤ q → may_follow (Ordered c) w q j ≡ true → rank_at c w q < rank_at c w j
  unfolding may_follow
  step_above q j h e = ltb-true (rank_at c w q) (rank_at c w j) (rw (ne_eqb q 0 (omega arith)) at e)

  above_step : (q j : ℕ) → (1 ≤ q → rank_at c w q < rank_at c w j) → may_follow (Ordered c) w q j ≡ true
  unfolding may_follow
  above_step zero j h = rw (eq-eqb 0 0 refl)
  above_step (suc q) j h =
      rw (ne_eqb (suc q) 0 (omega arith)) (lt-ltb (rank_at c w (suc q)) (rank_at c w j) (h (omega arith)))

  record Above (q : ℕ) (l : List ℕ) : Type 0 where
    above : 1 ≤ q → All (λ j. rank_at c w q < rank_at c w j) l
    ascending : Ascending (rank_at c w) l

  steps_above : (q : ℕ) (l : List ℕ) → All (λ j. 1 ≤ j) l → Steps (Ordered c) w q l → Above q l
  steps_above q [] r s = record { above = λ h. tt; ascending = tt }
  steps_above q (i ∷ l) r s =
      let rest = steps_above i l r.1 s.1 in
      let all = rest.above r.0 in
      record {
        above = λ h.
            let u = step_above q i h s.0 in (
              u,
              all_map {P = λ j. rank_at c w i < rank_at c w j} {Q = λ j. rank_at c w q < rank_at c w j}
                  (λ j v. omega arith) l all,
            );
        ascending = (all, rest.ascending);
      }

  pub steps_ascending : (l : List ℕ) → All (λ j. 1 ≤ j) l → Steps (Ordered c) w 0 l → Ascending (rank_at c w) l
  steps_ascending l r s = (steps_above 0 l r s).ascending

  pub ascending-steps : (q : ℕ) (l : List ℕ) → (1 ≤ q → All (λ j. rank_at c w q < rank_at c w j) l)
      → Ascending (rank_at c w) l → Steps (Ordered c) w q l
  ascending-steps q [] h a = tt
  ascending-steps q (i ∷ l) h a = (above_step q i (λ u. (h u).0), ascending-steps i l (λ u. a.0) a.1)

pub free-steps : (w : List ℕ) (q : ℕ) (l : List ℕ) → Steps Free w q l
unfolding may_follow
free-steps w q [] = tt
free-steps w q (i ∷ l) = (refl, free-steps w i l)
