-- A chain in order through the walk that trails its stops: as long as no trailed record ranks below the one before, it
-- is the chain of the book after trailing.
use Prim.Native.Nat.{ℕ, ◌≤◌, ◌<◌, ◌^◌}
use mathlib.Core.Path.{◌≡◌, sym, ap, ◌∙◌}
use mathlib.Core.Bool.{Bool, true, false, false≢true}
use mathlib.Core.List.{List, [], ◌∷◌, ◌++◌, append_assoc, append-nil, map}
use native.Mathlib.Omega.{arith}
use borrow.Author.Tests.{ltb-false, eqb-true, eqb-false, eq-eqb, ne_eqb}
use borrow.Table.Steps.{cases}
use lib.Dec.{ltb, eqb}
use Rattle.pricelevel.specs.declared.Price.{Price}
use Rattle.pricelevel.specs.declared.Side.{Side}
use Rattle.book.proofs.Lists.{all_map, all_append}
use Rattle.book.specs.Lists.{All}
use Rattle.book.specs.Steps.{trailed_slot, trailed_on}
use Rattle.book.specs.Valid.{Valid, Fits}
use Rattle.book.specs.Book.{Book}
use Rattle.book.specs.Words.{chain_indices}
use Rattle.book.specs.declared.Chain.{Chain}
use Rattle.book.specs.declared.Chain.TheVariants.{ByWatermark}
use Rattle.chains.specs.Rank.{rank_at}
use Rattle.chains.proofs.Ascents.{Ascending}
use Rattle.chains.proofs.Ranked.{rank_in}
use Rattle.resort.proofs.Insertion.{insert_ranked_end, fold_in, fold-sort, fold_none, fold_next}
use Rattle.trailing.proofs.Mapped.{resorted, resorts}
use Rattle.trailing.proofs.Slots.{trailed_slot_keeps, trailed_on-valid, trailed_on_fits}
use Rattle.trailing.specs.Trail.{still_in_order, ends_in_order}

module _ (so_far : Bool) (x : ℕ) where
  pub still_not : (y : ℕ) → ltb y x ≡ true → still_in_order so_far x y ≡ false
  unfolding still_in_order
  still_not y e = rw e

  pub still_yes : (y : ℕ) → ltb y x ≡ false → still_in_order so_far x y ≡ so_far
  unfolding still_in_order
  still_yes y e = rw e

  pub still_so : (y : ℕ) → still_in_order so_far x y ≡ true → (so_far ≡ true) × (x ≤ y)
  still_so y h = cases (ltb y x) (λ e. absurd (false≢true (sym (still_not y e) ∙ h)))
      (λ e. (sym (still_yes y e) ∙ h, ltb-false y x e))

  module _ (c : Chain) (w : List ℕ) (i : ℕ) where
    pub ends_none : i ≡ 0 → ends_in_order so_far x c w i ≡ so_far
    unfolding ends_in_order
    ends_none e = rw (eq-eqb i 0 e)

    pub ends_some : (i ≡ 0 → ⊥) → ends_in_order so_far x c w i ≡ still_in_order so_far x (rank_at c w i)
    unfolding ends_in_order
    ends_some n = rw (ne_eqb i 0 n)

    pub ends_so : ends_in_order so_far x c w i ≡ true → (so_far ≡ true) × (1 ≤ i → x ≤ rank_at c w i)
    ends_so h = cases (eqb i 0)
        (λ e. let z = eqb-true i 0 e in (sym (ends_none z) ∙ h, λ low. absurd (omega arith)))
        (λ e. let t = still_so (rank_at c w i) (sym (ends_some (eqb-false i 0 e)) ∙ h) in (t.0, λ low. t.1))

module _ (rk : ℕ → ℕ) where
  abbrev Under : ℕ → List ℕ → Type 0
  Under x = All (λ j. rk j ≤ x)

  under_more : (x y : ℕ) (l : List ℕ) → x ≤ y → Under x l → Under y l
  under_more x y l le = all_map {P = λ j. rk j ≤ x} {Q = λ j. rk j ≤ y} (λ j h. omega arith) l

  under_next : (x : ℕ) (f : List ℕ) (i : ℕ) → Under x f → x ≤ rk i → Under (rk i) (f ++ (i ∷ []))
  under_next x f i u le = all_append (λ j. rk j ≤ rk i) f (i ∷ []) (under_more x (rk i) f le u) (omega arith, tt)

  -- one that does not rank below those before it stays
  fold_stays : (x : ℕ) (f : List ℕ) (i : ℕ) (l : List ℕ) → Under x f → x ≤ rk i
      → fold_in rk f (i ∷ l) ≡ fold_in rk (f ++ (i ∷ [])) l
  fold_stays x f i l u le =
      fold_next rk f i l ∙ ap (λ (g : List ℕ). fold_in rk g l) (insert_ranked_end rk i f (under_more x (rk i) f le u))

  -- and so do all of a list that ascends
  pub fold_ascending : (x : ℕ) (f l : List ℕ) → Under x f → All (λ j. x ≤ rk j) l → Ascending rk l
      → fold_in rk f l ≡ f ++ l
  fold_ascending x f [] u o a = fold_none rk f ∙ sym (append-nil f)
  fold_ascending x f (i ∷ l) u o a =
      fold_stays x f i l u o.0
      ∙ fold_ascending (rk i) (f ++ (i ∷ [])) l (under_next x f i u o.0)
      (all_map {P = λ j. rk i < rk j} {Q = λ j. rk i ≤ rk j} (λ j h. omega arith) l a.0) a.1
      ∙ append_assoc f (i ∷ []) l

module _ (side : Side) (price : Price) (b : Book) where
  -- ranks by watermark after trailing
  abbrev pub ranked : ℕ → ℕ
  ranked = rank_in (ByWatermark side) (map (trailed_slot side price) b.slots)

  -- the records of front, trailed, are in order, and none of them ranks above x
  pub record Order (front rest : List ℕ) (x : ℕ) : Type 0 where
    pub below : All (λ j. ranked j ≤ x) front
    pub sorts : fold_in ranked front rest ≡ chain_indices (ByWatermark side) (trailed_on side price b)

  pub order_begins : Valid b → Fits b → price.0 < 2 ^ 64 → Order [] (chain_indices (ByWatermark side) b) 0
  unfolding trailed_on
  order_begins v fits p =
      let tv = trailed_on-valid side price b v in
      let tf = trailed_on_fits side price b p fits in
      record {
        below = tt;
        sorts =
            fold-sort ranked (chain_indices (ByWatermark side) b)
            (resorts (trailed_slot side price) (trailed_slot_keeps side price) b fits tv tf (ByWatermark side))
            ∙ resorted (trailed_slot side price) (trailed_slot_keeps side price) b fits tv tf (ByWatermark side);
      }

  pub order_next : (front : List ℕ) (i : ℕ) (after : List ℕ) (x y : ℕ) → Order front (i ∷ after) x → x ≤ y
      → y ≡ ranked i
      → Order (front ++ (i ∷ [])) after y
  order_next front i after x y o le e = record {
    below = rw e (under_next ranked x front i o.below (omega (arith, e)));
    sorts = sym (fold_stays ranked x front i after o.below (omega (arith, e))) ∙ o.sorts;
  }

  pub order-ends : (front rest : List ℕ) (x : ℕ) → chain_indices (ByWatermark side) b ≡ front ++ rest
      → Order front rest x
      → All (λ j. x ≤ ranked j) rest → Ascending ranked rest
      → chain_indices (ByWatermark side) (trailed_on side price b) ≡ chain_indices (ByWatermark side) b
  order-ends front rest x e o over a = sym o.sorts ∙ fold_ascending ranked x front rest o.below over a ∙ sym e
