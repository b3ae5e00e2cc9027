-- Laws of the names of chains: where their heads and links stand, what tells one from another, and a change of one
-- chain.
use Prim.Native.Nat.{ℕ, ◌-◌, ◌≤◌, ◌<◌}
use mathlib.Core.Path.{◌≡◌, refl, sym, ap, fun_ext, ◌∙◌}
use mathlib.Core.Logic.{◌≢◌}
use mathlib.Core.Bool.{cond}
use mathlib.Core.List.{List}
use native.Mathlib.Omega.{arith}
use borrow.Author.Tests.{eqb-true, eqb-false, eq-eqb, ne_eqb}
use borrow.Table.Steps.{cases}
use lib.Dec.{eqb}
use Rattle.pricelevel.specs.declared.Side.{Side}
use Rattle.pricelevel.specs.declared.Side.TheVariants.{Buy, Sell}
use Rattle.book.specs.Sizes.{header_length, record_length, next_by_stop, next_by_watermark, IsData}
use Rattle.book.specs.declared.Chain.{Chain}
use Rattle.book.specs.declared.Chain.TheVariants.{ByStop, ByWatermark}
use Rattle.chains.specs.Chained.{upd}
use Rattle.book.specs.Book.{chain_side}
use Rattle.book.specs.Chains.{start_of, next_of, group_of}
use Rattle.book.specs.declared.StoreChain.{StoreChain}
use Rattle.book.specs.declared.StoreChain.TheVariants.{Ordered, Free}

------------------------------------------------------------------------
-- Heads and links

pub record Stands (a : StoreChain) : Type 0 where
  pub low : 4 ≤ start_of a
  pub high : start_of a < header_length
  pub no_data : {k : ℕ} → IsData k → k ≢ next_of a
  pub in_record : next_of a < record_length
  pub one_of_two : next_of a ≢ next_by_stop → next_of a ≡ next_by_watermark

pub name_stands : (a : StoreChain) → Stands a
name_stands (Ordered (ByStop Sell)) = record {
  low = omega arith;
  high = omega arith;
  no_data = λ d. d.no_stop_link;
  in_record = omega arith;
  one_of_two = λ h. absurd (h refl);
}
name_stands (Ordered (ByWatermark Sell)) = record {
  low = omega arith;
  high = omega arith;
  no_data = λ d. d.no_watermark_link;
  in_record = omega arith;
  one_of_two = λ h. refl;
}
name_stands (Ordered (ByStop Buy)) = record {
  low = omega arith;
  high = omega arith;
  no_data = λ d. d.no_stop_link;
  in_record = omega arith;
  one_of_two = λ h. absurd (h refl);
}
name_stands (Ordered (ByWatermark Buy)) = record {
  low = omega arith;
  high = omega arith;
  no_data = λ d. d.no_watermark_link;
  in_record = omega arith;
  one_of_two = λ h. refl;
}
name_stands Free = record {
  low = omega arith;
  high = omega arith;
  no_data = λ d. d.no_stop_link;
  in_record = omega arith;
  one_of_two = λ h. absurd (h refl);
}

name_at : ℕ → StoreChain
name_at h =
    cond (eqb h 4) (Ordered (ByStop Sell))
    (cond (eqb h 5) (Ordered (ByWatermark Sell))
    (cond (eqb h 6) (Ordered (ByStop Buy)) (cond (eqb h 7) (Ordered (ByWatermark Buy)) Free)))

name_at_head : (a : StoreChain) → name_at (start_of a) ≡ a
unfolding name_at
name_at_head (Ordered (ByStop Sell)) = refl
name_at_head (Ordered (ByWatermark Sell)) = refl
name_at_head (Ordered (ByStop Buy)) = refl
name_at_head (Ordered (ByWatermark Buy)) = refl
name_at_head Free = refl

-- the head tells the chain
pub head_injective : (a b : StoreChain) → start_of a ≡ start_of b → a ≡ b
head_injective a b e = sym (name_at_head a) ∙ ap name_at e ∙ name_at_head b

head_at : ℕ → ℕ → ℕ
head_at g link = cond (eqb g 2) 8 (cond (eqb g 1) (link - 5) (link - 3))

head_at_name : (a : StoreChain) → head_at (group_of a) (next_of a) ≡ start_of a
unfolding head_at
head_at_name (Ordered (ByStop Sell)) = refl
head_at_name (Ordered (ByWatermark Sell)) = refl
head_at_name (Ordered (ByStop Buy)) = refl
head_at_name (Ordered (ByWatermark Buy)) = refl
head_at_name Free = refl

-- and so do its group and its link
pub name_injective : (a b : StoreChain) → group_of a ≡ group_of b → next_of a ≡ next_of b → a ≡ b
name_injective a b g l = head_injective a b (sym (head_at_name a) ∙ rw (g, l) (head_at_name b))

-- the free chain is a group by itself
pub free_group : (a : StoreChain) → group_of a ≡ group_of Free → a ≡ Free
unfolding head_at
free_group a g = head_injective a Free (sym (head_at_name a) ∙ rw g refl)

-- no free record is linked by watermark
pub watermark_group : (a : StoreChain) → next_of a ≡ next_by_watermark → group_of a ≢ group_of Free
watermark_group a l g = omega (arith, ap next_of (free_group a g))

-- the chains of a side are two
pub side_group : (side : Side) (a : StoreChain) → Ordered (ByStop side) ≢ a → Ordered (ByWatermark side) ≢ a
    → group_of (Ordered (ByStop side)) ≢ group_of a
side_group side a stops watermarks g =
    let s = name_stands a in
    cases (eqb (next_of a) next_by_stop)
    (λ e. stops (name_injective (Ordered (ByStop side)) a g (sym (eqb-true _ _ e))))
    (λ e. watermarks (name_injective (Ordered (ByWatermark side)) a g
    (sym (s.one_of_two (eqb-false (next_of a) next_by_stop e)))))

pub of_free : (c : Chain) → Ordered c ≢ Free
of_free c e = let z : ◌≡◌ {A = ℕ} 0 1 = cc in omega arith

pub stop_watermark : (side : Side) → Ordered (ByStop side) ≢ Ordered (ByWatermark side)
stop_watermark side e = omega (arith, ap next_of e)

------------------------------------------------------------------------
-- A change of one chain

pub upd_here : (a : StoreChain) (l : List ℕ) (ch : StoreChain → List ℕ) → upd a l ch a ≡ l
unfolding upd
upd_here a l ch = rw (eq-eqb (start_of a) (start_of a) refl)

pub upd_other : (a b : StoreChain) (l : List ℕ) (ch : StoreChain → List ℕ) → a ≢ b → upd a l ch b ≡ ch b
unfolding upd
upd_other a b l ch n = rw (ne_eqb (start_of a) (start_of b) (λ e. n (head_injective a b e)))

-- what holds of the new chain, and of each other, holds of each
pub upd_all : (P : StoreChain → List ℕ → Type 0) (a : StoreChain) (l : List ℕ) (ch : StoreChain → List ℕ) → P a l
    → ((b : StoreChain) → a ≢ b → P b (ch b))
    → (b : StoreChain) → P b (upd a l ch b)
unfolding upd
upd_all P a l ch here other b = cases (eqb (start_of a) (start_of b))
    (λ e. rw (e, ← head_injective a b (eqb-true _ _ e)) here)
    (λ e. rw e (other b (λ q. eqb-false _ _ e (ap start_of q))))

-- the last change of a chain counts
pub upd_twice : (a : StoreChain) (l m : List ℕ) (ch : StoreChain → List ℕ) → upd a l (upd a m ch) ≡ upd a l ch
upd_twice a l m ch =
    fun_ext (upd_all (λ b x. x ≡ upd a l ch b) a l (upd a m ch) (sym (upd_here a l ch))
    (λ b ne. upd_other a b m ch ne ∙ sym (upd_other a b l ch ne)))

-- a chain that stays
pub upd_same : (a : StoreChain) (l : List ℕ) (ch : StoreChain → List ℕ) → l ≡ ch a → upd a l ch ≡ ch
upd_same a l ch e = fun_ext (upd_all (λ b x. x ≡ ch b) a l ch e (λ b ne. refl))

-- a chain that is neither of a side's is of the other side
pub other_side : (side : Side) (c : Chain) → Ordered (ByStop side) ≢ Ordered c → Ordered (ByWatermark side) ≢ Ordered c
    → chain_side c ≢ side
other_side side (ByStop d) stops watermarks e = stops (rw e refl)
other_side side (ByWatermark d) stops watermarks e = watermarks (rw e refl)
