-- How many records there are of each group.
use Prim.Native.Nat.{ℕ, zero, suc, ◌+◌, ◌-◌, ◌≤◌, ◌<◌}
use native.Mathlib.Omega.{arith}
use native.Mathlib.Numerals.{add-one}
use mathlib.Core.Path.{◌≡◌, refl, sym, ◌∙◌}
use mathlib.Core.Bool.{cond}
use mathlib.Core.Logic.{◌⊎◌, ⊎_elim}
use mathlib.Core.List.{List, [], ◌∷◌}
use borrow.Author.Tests.{ne_eqb, eq-eqb}
use lib.Dec.{eqb}
use lib.ListN.{length}
use Rattle.pricelevel.specs.Side.{side_number}
use Rattle.pricelevel.specs.declared.Side.{Side}
use Rattle.pricelevel.specs.declared.Side.TheVariants.{Buy, Sell}
use Rattle.book.proofs.ReadBack.{slots_at_length}
use Rattle.book.proofs.FreeChain.{pending_count_vacant}
use Rattle.book.specs.Book.{Slot, vacant, held, side_of, pending_count}
use Rattle.book.specs.Words.{slot_at, slots_at, vacant_indices}
use Rattle.form_check.specs.Check.{group_count, SidesCounted}
use Rattle.book.specs.Chains.{slot_group}
use Rattle.form_check.specs.declared.Sides.{Sides}

------------------------------------------------------------------------
-- A loop over m records from i on

module _ (g : ℕ) (w : List ℕ) (whole i m c : ℕ) (inv : c + group_count g (slots_at w i m) ≡ whole) where
  pub count_end : m ≤ 0 → c ≡ whole
  unfolding slots_at group_count
  count_end h = go m h inv
    where
      go : (m : ℕ) → m ≤ 0 → c + group_count g (slots_at w i m) ≡ whole → c ≡ whole
      go zero h e = omega arith
      go (suc m) h e = absurd (omega arith)

  count-step : 0 < m → c +
      (cond (eqb (slot_group (slot_at w i)) g) 1 0 + group_count g (slots_at w (i + 1) (m - 1))) ≡ whole
  unfolding slots_at group_count
  count-step h = go m h inv
    where
      go : (m : ℕ) → 0 < m → c + group_count g (slots_at w i m) ≡ whole
          → c + (cond (eqb (slot_group (slot_at w i)) g) 1 0 + group_count g (slots_at w (i + 1) (m - 1))) ≡ whole
      go zero h e = absurd (omega arith)
      go (suc m) h e = let z : suc m - 1 ≡ m = omega arith in rw (z, add-one) e

  module _ (h : ℕ) (e : h ≡ slot_group (slot_at w i)) (some : 0 < m) where
    count_yes : h ≡ g → (c + 1) + group_count g (slots_at w (i + 1) (m - 1)) ≡ whole
    count_yes q = omega (arith, rw (eq-eqb (slot_group (slot_at w i)) g (sym e ∙ q)) at (count-step some))

    count_no : (h ≡ g → ⊥) → c + group_count g (slots_at w (i + 1) (m - 1)) ≡ whole
    count_no q = omega (arith, rw (ne_eqb (slot_group (slot_at w i)) g (λ x. q (e ∙ x))) at (count-step some))

    -- a turn counts record i or not
    pub count_turn : (d : ℕ) → c < i → ((h ≡ g) × (d ≡ c + 1)) ⊎ ((h ≡ g → ⊥) × (d ≡ c))
        → (d < i + 1) × (d + group_count g (slots_at w (i + 1) (m - 1)) ≡ whole)
    count_turn d few came =
        ⊎_elim (λ x. (omega (arith, x.1), rw x.1 (count_yes x.0)))
        (λ x. (omega (arith, x.1), rw x.1 (count_no x.0))) came

------------------------------------------------------------------------
-- The sides and the vacant records

pub group_count_sides : (ss : List Slot) → group_count 1 ss + group_count 0 ss ≡ pending_count ss
unfolding group_count pending_count
group_count_sides [] = refl
group_count_sides (vacant ∷ ss) = omega (arith, group_count_sides ss)
group_count_sides (held t ∷ ss) = go (side_of t) (group_count_sides ss)
  where
    go : (d : Side) → group_count 1 ss + group_count 0 ss ≡ pending_count ss
        → (cond (eqb (side_number d) 1) 1 0 + group_count 1 ss) +
        (cond (eqb (side_number d) 0) 1 0 + group_count 0 ss) ≡ suc (pending_count ss)
    go Sell e = omega arith
    go Buy e = omega arith

pub group_count_vacants : (i : ℕ) (ss : List Slot) → group_count 2 ss ≡ length (vacant_indices i ss)
unfolding group_count vacant_indices
group_count_vacants i [] = refl
group_count_vacants i (vacant ∷ ss) = omega (arith, group_count_vacants (suc i) ss)
group_count_vacants i (held t ∷ ss) = go (side_of t) (group_count_vacants (suc i) ss)
  where
    go : (d : Side) → group_count 2 ss ≡ length (vacant_indices (suc i) ss)
        → cond (eqb (side_number d) 2) 1 0 + group_count 2 ss ≡ length (vacant_indices (suc i) ss)
    go Sell e = omega arith
    go Buy e = omega arith

pub pending_count_few : (w : List ℕ) (n : ℕ) → pending_count (slots_at w 1 n) ≤ n
pending_count_few w n = omega (arith, pending_count_vacant 1 (slots_at w 1 n), slots_at_length w 1 n)

-- the counts of the two sides add up to that of the pending records, which are at most n
module _ {sides : Sides} {w : List ℕ} {n : ℕ} (counted : SidesCounted sides w n) where
  pub sides_pending : sides.sells + sides.buys ≡ pending_count (slots_at w 1 n)
  sides_pending = omega (arith, counted.sells, counted.buys, group_count_sides (slots_at w 1 n))

  pub sides_few : sides.sells + sides.buys ≤ n
  sides_few = omega (arith, sides_pending, pending_count_few w n)

-- the vacant ones are those that the sides leave
pub group_count_rest : (w : List ℕ) (n : ℕ) → group_count 2 (slots_at w 1 n) ≡ n - pending_count (slots_at w 1 n)
group_count_rest w n =
    omega (arith, group_count_vacants 1 (slots_at w 1 n), pending_count_vacant 1 (slots_at w 1 n), slots_at_length w 1 n)
