-- What a walk along a chain of a store finds: the moves of a side in watermark chain order, and its elected in stop
-- chain order.
use Prim.Native.Nat.{ℕ, suc}
use mathlib.Core.Path.{◌≡◌, refl, sym, ◌∙◌}
use mathlib.Core.Logic.{◌⊎◌, inl, inr}
use mathlib.Core.Bool.{Bool, false, not, cond}
use mathlib.Core.List.{List, [], ◌∷◌, map}
use borrow.Author.Tests.{eq-eqb}
use borrow.Table.Steps.{cases}
use lib.Dec.{eqb}
use Rattle.pricelevel.specs.declared.Price.{Price}
use Rattle.pricelevel.specs.declared.Side.{Side}
use Rattle.pricelevel.specs.declared.Side.TheVariants.{Buy, Sell}
use Rattle.book.specs.Lists.{All}
use Rattle.book.proofs.SortedParts.{AllStops}
use Rattle.book.specs.Steps.{elect, elected_in}
use Rattle.book.proofs.Stops.{trailed_still}
use Rattle.book.specs.Valid.{StopFits, SlotFits}
use Rattle.book.specs.Book.{Slot, vacant, held, Book, side_of, stop_of, Pending, with_index, gather, sort, of_side}
use Rattle.book.specs.Evaluation.{trailed, leaving_on, changed_on, mover, moved_entry, moved_on, fill_at}
use Rattle.book.specs.declared.Chain.TheVariants.{ByStop, ByWatermark}
use Rattle.book.specs.declared.StopEntry.{StopEntry}
use Rattle.listing.proofs.Choices.{chosen, chosen_of, chosen-gather, chosen-sort}
use Rattle.listing.proofs.Leaders.{leading, given, watermark_behind, elected_stop}
use Rattle.book.specs.Entries.{moved_words}
use Rattle.listing.specs.ChainEntries.{fill_words, moves_of, fill_of, fills_of}
use Rattle.std.specs.Prelude.{None, Option, Some}

------------------------------------------------------------------------
-- Moves

-- a trade at the price changes the stop
unfoldable pub changes : Price → StopEntry → Bool
changes price t = not (eqb (stop_of (trailed price t)) (stop_of t))

given-moves : (price : Price) (l : List Pending)
    → given (moves_of price) l ≡ map moved_words (map (moved_entry price) (chosen (changes price) l))
unfolding given moves_of chosen changes moved_entry
given-moves price [] = refl
given-moves price (p ∷ l) = cases (eqb (stop_of (trailed price p.entry)) (stop_of p.entry))
    (λ e. rw (e, given-moves price l))
    (λ e. rw (e, given-moves price l))

side_or_none : (d s : Side) (t : StopEntry) → (s ≡ d) ⊎ (of_side d s t ≡ None)
unfolding of_side
side_or_none Sell Sell t = inl refl
side_or_none Sell Buy t = inr refl
side_or_none Buy Sell t = inr refl
side_or_none Buy Buy t = inl refl

chosen_side : (keep : StopEntry → Bool) (d s : Side) (t : StopEntry)
    → chosen_of keep (of_side d s t) ≡ cond (keep t) (of_side d s t) None
unfolding chosen_of of_side
chosen_side keep Sell Sell t = refl
chosen_side keep Sell Buy t = cases (keep t) (λ e. rw e) (λ e. rw e)
chosen_side keep Buy Sell t = cases (keep t) (λ e. rw e) (λ e. rw e)
chosen_side keep Buy Buy t = refl

module _ (price : Price) (d : Side) where
  -- where the watermark is not behind the price, the stop does not change
  still-mover : (t : StopEntry) → watermark_behind d price t ≡ false → mover price d (held t) ≡ None
  unfolding mover changed_on
  still-mover t e = elim (side_or_none d (side_of t) t) [
    | inl q ↦ rw (trailed_still price t (rw q e), eq-eqb (stop_of t) (stop_of t) refl)
    | inr q ↦ cases (eqb (stop_of (trailed price t)) (stop_of t)) (λ f. rw f) (λ f. rw (f, q))
  ]

  leading-mover : (s : Slot) → chosen_of (changes price) (leading (watermark_behind d price) d s) ≡ mover price d s
  unfolding leading leaving_on mover changed_on changes chosen_of
  leading-mover vacant = refl
  leading-mover (held t) = cases (watermark_behind d price t)
      (λ e. rw (e, chosen_side (changes price) d (side_of t) t)
      (cases (eqb (stop_of (trailed price t)) (stop_of t)) (λ f. rw f) (λ f. rw f)))
      (λ e. rw e (sym (still-mover t e)))

------------------------------------------------------------------------
-- The stops that are gathered are of words

abbrev OptionFits : Option StopEntry → Type 0
OptionFits None = Unit {0}
OptionFits (Some t) = StopFits t

with_index_fits : (i : ℕ) (o : Option StopEntry) (l : List Pending) → OptionFits o → AllStops StopFits l
    → AllStops StopFits (with_index i o l)
unfolding with_index
with_index_fits i None l f h = h
with_index_fits i (Some t) l f h = (f, h)

side_fits : (d s : Side) (t : StopEntry) → StopFits t → OptionFits (of_side d s t)
unfolding of_side
side_fits Sell Sell t f = f
side_fits Sell Buy t f = tt
side_fits Buy Sell t f = tt
side_fits Buy Buy t f = f

module _ (test : StopEntry → Bool) (d : Side) where
  leading_fits : (s : Slot) → SlotFits s → OptionFits (leading test d s)
  unfolding leading leaving_on
  leading_fits vacant f = tt
  leading_fits (held t) f = cases (test t) (λ e. rw e (side_fits d (side_of t) t f)) (λ e. rw e tt)

  gather_fits : (i : ℕ) (ss : List Slot) → All SlotFits ss → AllStops StopFits (gather (leading test d) i ss)
  unfolding gather
  gather_fits i [] f = tt
  gather_fits i (s ∷ ss) f =
      with_index_fits i (leading test d s) (gather (leading test d) (suc i) ss) (leading_fits s f.0)
      (gather_fits (suc i) ss f.1)

pub given-moved_on : (price : Price) (d : Side) (b : Book) → All SlotFits b.slots
    → given (moves_of price)
    (sort (ByWatermark d) (gather (leading (watermark_behind d price) d) 1 b.slots)) ≡ map moved_words
    (moved_on price d b)
unfolding moved_on
given-moved_on price d b f =
    let l = gather (leading (watermark_behind d price) d) 1 b.slots in
    given-moves price (sort (ByWatermark d) l)
    ∙ rw (
      chosen-sort (ByWatermark d) (changes price) l (gather_fits (watermark_behind d price) d 1 b.slots f),
      chosen-gather (changes price) (leading (watermark_behind d price) d) (mover price d)
          (leading-mover price d) 1 b.slots,
    )

------------------------------------------------------------------------
-- The elected

given_fills : (price : Price) (l : List Pending) → given (fills_of price) l ≡ map (λ p. fill_words (fill_at price p)) l
unfolding given fills_of fill_of fill_at fill_words
given_fills price [] = refl
given_fills price (p ∷ l) = rw (given_fills price l)

gather-elect : (price : Price) (d : Side) (i : ℕ) (ss : List Slot)
    → gather (leading (elected_stop price) d) i ss ≡ gather (elect d price) i ss
unfolding gather leading elect
gather-elect price d i [] = refl
gather-elect price d i (vacant ∷ ss) = rw (gather-elect price d (suc i) ss)
gather-elect price d i (held t ∷ ss) = rw (gather-elect price d (suc i) ss)

pub given-elected_in : (price : Price) (d : Side) (b : Book)
    → given (fills_of price) (sort (ByStop d) (gather (leading (elected_stop price) d) 1 b.slots))
    ≡ map (λ p. fill_words (fill_at price p)) (elected_in d price b)
unfolding elected_in
given-elected_in price d b = given_fills price _ ∙ rw (gather-elect price d 1 b.slots)
