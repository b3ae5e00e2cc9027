-- The quantity of one record on a side, the sum over the records, and a sum as two words.
use Prim.Native.Nat.{ℕ, suc, ◌+◌, ◌-◌, ◌^◌, ◌≤◌, ◌<◌}
use mathlib.Core.Path.{◌≡◌, refl, sym}
use mathlib.Core.List.{List}
use native.Mathlib.Numerals.{add-one}
use native.Mathlib.Omega.{arith}
use borrow.Author.Tests.{eqb-true}
use borrow.Table.Steps.{cases}
use lib.Dec.{eqb}
use Rattle.pricelevel.proofs.Numbers.{two_words-number}
use Rattle.pricelevel.specs.Side.{side_number}
use Rattle.pricelevel.specs.TwoWords.{number_of, two_words}
use Rattle.pricelevel.specs.declared.Side.{Side}
use Rattle.pricelevel.specs.declared.Side.TheVariants.{Buy, Sell}
use Rattle.pricelevel.specs.declared.TwoWords.{TwoWords}
use Rattle.book.specs.Book.{of_side, pending_on}
use Rattle.book.specs.Store.{quantity_of, total}
use Rattle.book.specs.Words.{record_word, side_from, entry_at, slot_at, slots_at}
use Rattle.book.specs.declared.StopEntry.{StopEntry}

------------------------------------------------------------------------
-- One record

of_side_same : (a d : Side) (t : StopEntry) → side_number d ≡ side_number a → quantity_of (of_side a d t) ≡ t.quantity.0
unfolding of_side quantity_of
of_side_same Sell Sell t e = refl
of_side_same Sell Buy t e = absurd (omega arith)
of_side_same Buy Sell t e = absurd (omega arith)
of_side_same Buy Buy t e = refl

of_side-other : (a d : Side) (t : StopEntry) → (side_number d ≡ side_number a → ⊥) → quantity_of (of_side a d t) ≡ 0
unfolding of_side quantity_of
of_side-other Sell Sell t n = absurd (n refl)
of_side-other Sell Buy t n = refl
of_side-other Buy Sell t n = refl
of_side-other Buy Buy t n = absurd (n refl)

module _ (w : List ℕ) (i : ℕ) (side : Side) where
  pub quantity_same : side_number (side_from (record_word w i 3)) ≡ side_number side
      → quantity_of (pending_on side (slot_at w i)) ≡ record_word w i 7
  unfolding slot_at entry_at pending_on quantity_of
  quantity_same q = cases (eqb (record_word w i 7) 0)
      (λ e. rw e (sym (eqb-true _ _ e)))
      (λ e. rw e (of_side_same side _ (entry_at w i) q))

  pub quantity-other : (side_number (side_from (record_word w i 3)) ≡ side_number side → ⊥)
      → quantity_of (pending_on side (slot_at w i)) ≡ 0
  unfolding slot_at entry_at pending_on quantity_of
  quantity-other n = cases (eqb (record_word w i 7) 0) (λ e. rw e) (λ e. rw e (of_side-other side _ (entry_at w i) n))

------------------------------------------------------------------------
-- The sum over the records

-- the sum of the records before i, and that of the others, are the whole
pub record Summed (side : Side) (w : List ℕ) (n i : ℕ) (sum : TwoWords) : Type 0 where
  pub least : 1 ≤ i
  pub most : i ≤ n + 1
  pub small : sum.high < i
  pub low : sum.low < 2 ^ 64
  pub whole : number_of sum + total side (slots_at w i (n + 1 - i)) ≡ total side (slots_at w 1 n)

module _ (side : Side) (w : List ℕ) (n : ℕ) where
  pub summed_none : Summed side w n 1 (record { high = 0; low = 0 })
  summed_none = let e : n + 1 - 1 ≡ n = omega arith in record {
    least = omega arith;
    most = omega arith;
    small = omega arith;
    low = omega arith;
    whole = rw e (omega arith);
  }

  total_first : (i : ℕ) → i ≤ n
      → total side (slots_at w i (n + 1 - i)) ≡ quantity_of (pending_on side (slot_at w i)) + total side
      (slots_at w (i + 1) (n + 1 - (i + 1)))
  unfolding total slots_at
  total_first i h =
      let e : n + 1 - i ≡ suc (n + 1 - (i + 1)) = omega arith in
      rw (e, add-one i)

  pub summed_more : (i : ℕ) (sum more : TwoWords) (x : ℕ) → i ≤ n → Summed side w n i sum
      → x ≡ quantity_of (pending_on side (slot_at w i))
      → number_of more ≡ number_of sum + x → (more.high ≤ sum.high + 1) × (more.low < 2 ^ 64)
      → Summed side w n (i + 1) more
  summed_more i sum more x h s q e f = record {
    least = omega arith;
    most = omega arith;
    small = omega (arith, s.small, f.0);
    low = f.1;
    whole = omega (arith, total_first i h, s.whole, q, e);
  }

  pub summed_all : (i : ℕ) (sum : TwoWords) → n < i → Summed side w n i sum
      → sum ≡ two_words (total side (slots_at w 1 n))
  unfolding total slots_at
  summed_all i sum h s =
      let e : n + 1 - i ≡ 0 = omega (arith, s.most) in
      let whole : number_of sum + 0 ≡ total side (slots_at w 1 n) = rw e at s.whole in
      two_words-number sum _ s.low (omega (arith, whole))
