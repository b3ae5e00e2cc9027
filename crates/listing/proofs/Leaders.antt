-- The stops of a chain that pass a test lead it: what a walk up to the first that does not pass finds are all that
-- pass, in order.
use Prim.Native.Nat.{ℕ}
use mathlib.Core.Path.{◌≡◌, refl, sym, ◌∙◌}
use mathlib.Core.Logic.{◌≢◌}
use mathlib.Core.Bool.{Bool, true, false, not, false≢true}
use mathlib.Core.List.{List, [], ◌∷◌, ◌++◌}
use borrow.Author.Tests.{not-true, not-false, ne_eqb}
use borrow.Table.Steps.{cases}
use lib.Dec.{ltb}
use Rattle.pricelevel.specs.declared.Price.{Price}
use Rattle.pricelevel.specs.declared.Side.{Side}
use Rattle.pricelevel.specs.declared.Side.TheVariants.{Buy, Sell}
use Rattle.stop_terms.proofs.Terms.{behind_past, behind_irrefl, behind_asym, elects_past}
use Rattle.stop_terms.specs.Terms.{behind, elected_at}
use Rattle.stop_terms.specs.declared.StopTerms.{StopTerms}
use Rattle.book.proofs.Lists.{all_of}
use Rattle.book.specs.Lists.{All}
use Rattle.book.proofs.SortedParts.{Part, early, late, never, Apart, AllStops, parted, Met, Unmet, stops-apart}
use Rattle.book.specs.Book.{Slot, vacant, held, chain_side, side_of, stop_of, watermark_of, seq_of, lexicographic, before, Pending, gather, sort, of_side, pending_on, chain, indices}
use Rattle.book.specs.Evaluation.{leaving_on}
use Rattle.book.specs.Words.{entry_at}
use Rattle.book.specs.declared.Chain.{Chain}
use Rattle.book.specs.declared.Chain.TheVariants.{ByStop, ByWatermark}
use Rattle.book.specs.declared.StopEntry.{StopEntry}
use Rattle.listing.proofs.Along.{along}
use Rattle.std.specs.Prelude.{None, Option}

------------------------------------------------------------------------
-- The stops of a side, parted by a test

-- the stop of a record, if it is of the side and passes
unfoldable pub leading : (StopEntry → Bool) → Side → Slot → Option StopEntry
leading test d vacant = None
leading test d (held t) = leaving_on (test t) d t

-- the stops of a side that pass, and those that do not
abbrev pub Passes : (StopEntry → Bool) → Side → StopEntry → Type 0
Passes test d t = (side_of t ≡ d) × (test t ≡ true)

abbrev pub Fails : (StopEntry → Bool) → Side → StopEntry → Type 0
Fails test d t = (side_of t ≡ d) × (test t ≡ false)

part_passes : (P Q : StopEntry → Type 0) (d s : Side) (t : StopEntry) → (s ≡ d → P t)
    → Part P Q (of_side d s t) None (of_side d s t)
unfolding of_side
part_passes P Q Sell Sell t h = early t (h refl)
part_passes P Q Sell Buy t h = never
part_passes P Q Buy Sell t h = never
part_passes P Q Buy Buy t h = early t (h refl)

part_fails : (P Q : StopEntry → Type 0) (d s : Side) (t : StopEntry) → (s ≡ d → Q t)
    → Part P Q None (of_side d s t) (of_side d s t)
unfolding of_side
part_fails P Q Sell Sell t h = late t (h refl)
part_fails P Q Sell Buy t h = never
part_fails P Q Buy Sell t h = never
part_fails P Q Buy Buy t h = late t (h refl)

module _ (test : StopEntry → Bool) (d : Side) where
  slot_part : (s : Slot)
      → Part (Passes test d) (Fails test d) (leading test d s) (leading (λ t. not (test t)) d s) (pending_on d s)
  unfolding leading leaving_on pending_on
  slot_part vacant = never
  slot_part (held t) = cases (test t)
      (λ e. rw e (part_passes (Passes test d) (Fails test d) d (side_of t) t (λ q. (q, e))))
      (λ e. rw e (part_fails (Passes test d) (Fails test d) d (side_of t) t (λ q. (q, e))))

------------------------------------------------------------------------
-- Along a chain

-- what each of the stops gives
unfoldable pub given : (StopEntry → List (List ℕ)) → List Pending → List (List ℕ)
given give [] = []
given give (p ∷ l) = give p.entry ++ given give l

-- a stop's record reads as the stop
abbrev pub Reads : List ℕ → Pending → Type 0
Reads w p = entry_at w p.index ≡ p.entry

module _ (test : StopEntry → Bool) (give : StopEntry → List (List ℕ)) (w : List ℕ) (d : Side) where
  along_parted : (a b : List Pending) → All (Reads w) (a ++ b) → AllStops (Passes test d) a → AllStops (Fails test d) b
      → along test give w (indices (a ++ b)) ≡ given give a
  unfolding along indices given
  along_parted [] [] r h k = refl
  along_parted [] (p ∷ b) r h k = rw (r.0, k.0.1)
  along_parted (p ∷ a) b r h k = rw (r.0, h.0.1, along_parted a b r.1 h.1 k)

  pub along-chain : (c : Chain) → chain_side c ≡ d → Apart c (Passes test d) (Fails test d) → (ss : List Slot)
      → All (Reads w) (chain c ss)
      → along test give w (indices (chain c ss)) ≡ given give (sort c (gather (leading test d) 1 ss))
  unfolding chain
  along-chain c e apart ss reads =
      let v = parted c (Passes test d) (Fails test d) apart (leading test d) (leading (λ t. not (test t)) d)
      (pending_on d) (λ s. s) 1 ss
      (all_of (slot_part test d) ss) in
      rw (e, v.joined) (along_parted _ _ (rw (e, v.joined) at reads) v.front v.back)

------------------------------------------------------------------------
-- The two tests

-- the watermark is behind the price
abbrev pub watermark_behind : Side → Price → StopEntry → Bool
watermark_behind d price t = behind d (watermark_of t) price.0

-- the price elects the stop
abbrev pub elected_stop : Price → StopEntry → Bool
elected_stop price t = elected_at t.terms price

-- as the code tells them of the terms u that it read from record i
module _ (w : List ℕ) (i : ℕ) (u : StopTerms) (e : u ≡ (entry_at w i).terms)
    (price : Price) {told v : Bool} (is : told ≡ v) where
  pub behind_told : (d : Side) → told ≡ behind d u.watermark.0 price.0
      → watermark_behind d price (entry_at w i) ≡ v
  behind_told d q = rw (← e) (sym q ∙ is)

  pub elected_told : told ≡ elected_at u price → elected_stop price (entry_at w i) ≡ v
  elected_told q = rw (← e) (sym q ∙ is)

-- between equal watermarks
unfoldable tie : Side → StopEntry → StopEntry → Bool
tie Sell x y = ltb (seq_of x) (seq_of y)
tie Buy x y = ltb (seq_of y) (seq_of x)

before-ByWatermark : (d : Side) (x y : StopEntry)
    → before (ByWatermark d) x y ≡ lexicographic (behind d (watermark_of x) (watermark_of y)) (watermark_of x)
    (watermark_of y) (tie d x y)
unfolding before behind tie
before-ByWatermark Sell x y = refl
before-ByWatermark Buy x y = refl

behind-differs : (d : Side) (a b : ℕ) → behind d a b ≡ true → b ≢ a
behind-differs d a b h e = false≢true (sym (behind_irrefl d a) ∙ (rw e at h))

pub watermarks-apart : (d : Side) (price : Price)
    → Apart (ByWatermark d) (Passes (watermark_behind d price) d) (Fails (watermark_behind d price) d)
unfolding lexicographic
watermarks-apart d price = record {
  first = λ x y e l. rw
      (before-ByWatermark d x y, behind_past d (watermark_of x) price.0 (watermark_of y) e.1 l.1);
  second = λ x y e l.
      let h = behind_past d (watermark_of x) price.0 (watermark_of y) e.1 l.1 in
      rw (
        before-ByWatermark d y x,
        behind_asym d (watermark_of x) (watermark_of y) h,
        ne_eqb (watermark_of y) (watermark_of x) (behind-differs d (watermark_of x) (watermark_of y) h),
      );
}

module _ (d : Side) (price : Price) (t : StopEntry) where
  elected_past : side_of t ≡ d → elected_stop price t ≡ not (behind d (stop_of t) price.0)
  unfolding elected_at
  elected_past e = rw (← e) (elects_past (side_of t) price.0 (stop_of t))

  elected_met : Passes (elected_stop price) d t → Met d price t
  elected_met h = not-true _ (sym (elected_past h.0) ∙ h.1)

  waiting_unmet : Fails (elected_stop price) d t → Unmet d price t
  waiting_unmet h = not-false _ (sym (elected_past h.0) ∙ h.1)

pub elected-apart : (d : Side) (price : Price)
    → Apart (ByStop d) (Passes (elected_stop price) d) (Fails (elected_stop price) d)
elected-apart d price =
    let a = stops-apart d price in
    record {
      first = λ x y e l. a.first x y (elected_met d price x e) (waiting_unmet d price y l);
      second = λ x y e l. a.second x y (elected_met d price x e) (waiting_unmet d price y l);
    }
