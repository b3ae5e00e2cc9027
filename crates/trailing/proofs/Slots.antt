-- One record through trailing of a side: what stays, and that it stays sound and of words.
use Prim.Native.Nat.{◌<◌, ◌^◌}
use mathlib.Core.Path.{◌≡◌, refl, ap, ◌∙◌}
use mathlib.Core.Bool.{Bool, true, false, cond}
use borrow.Author.Tests.{eq-eqb}
use borrow.Table.Steps.{cases}
use Rattle.pricelevel.specs.declared.Price.{Price}
use Rattle.pricelevel.specs.declared.Side.{Side}
use Rattle.pricelevel.specs.declared.Side.TheVariants.{Buy, Sell}
use Rattle.stop_terms.specs.Terms.{behind}
use Rattle.book.proofs.PointRecord.{trailed_sound, trailed_fits}
use Rattle.book.specs.Steps.{is_side, trailed_slot, trailed_on}
use Rattle.book.proofs.Stops.{trailed_still, trailed_keeps}
use Rattle.book.specs.Valid.{Valid, SlotFits, Fits}
use Rattle.book.specs.Book.{Slot, vacant, held, Book, side_of, stop_of, watermark_of}
use Rattle.book.specs.Evaluation.{trailed}
use Rattle.book.specs.Words.{sound_stop}
use Rattle.book.specs.declared.StopEntry.{StopEntry}
use Rattle.trailing.proofs.Mapped.{Same, Keeps, mapped-valid, mapped_fits}
use Rattle.trailing.specs.Trail.{moves}

is_side_same : (a d : Side) → a ≡ d → is_side a d ≡ true
unfolding is_side
is_side_same Sell d e = rw (← e)
is_side_same Buy d e = rw (← e)

is_side-other : (a d : Side) → (a ≡ d → ⊥) → is_side a d ≡ false
unfolding is_side
is_side-other Sell Sell n = absurd (n refl)
is_side-other Sell Buy n = refl
is_side-other Buy Sell n = refl
is_side-other Buy Buy n = absurd (n refl)

-- a stop that the price has not passed does not move
pub moves_still : (price : Price) (t : StopEntry) → behind (side_of t) (watermark_of t) price.0 ≡ false
    → moves price t ≡ 0
unfolding moves
moves_still price t h = rw (trailed_still price t h, eq-eqb (stop_of t) (stop_of t) refl)

module _ (side : Side) (price : Price) where
  pub trailed_slot_vacant : trailed_slot side price vacant ≡ vacant
  unfolding trailed_slot
  trailed_slot_vacant = refl

  pub trailed_slot_own : (t : StopEntry) → side ≡ side_of t → trailed_slot side price (held t) ≡ held (trailed price t)
  unfolding trailed_slot
  trailed_slot_own t e = rw (is_side_same side (side_of t) e)

  pub trailed_slot-other : (t : StopEntry) → (side ≡ side_of t → ⊥) → trailed_slot side price (held t) ≡ held t
  unfolding trailed_slot
  trailed_slot-other t n = rw (is_side-other side (side_of t) n)

  pub trailed_slot_still : (t : StopEntry) → side ≡ side_of t → behind (side_of t) (watermark_of t) price.0 ≡ false
      → trailed_slot side price (held t) ≡ held t
  trailed_slot_still t e h = trailed_slot_own t e ∙ ap held (trailed_still price t h)

  -- what holds of a stop, and of it trailed, holds of it after trailing of a side
  trailed_slot_all : (P : Slot → Type 0) (s : Slot) → P s → ((t : StopEntry) → s ≡ held t → P (held (trailed price t)))
      → P (trailed_slot side price s)
  unfolding trailed_slot
  trailed_slot_all P vacant p h = p
  trailed_slot_all P (held t) p h = cases (is_side side (side_of t)) (λ e. rw e (h t refl)) (λ e. rw e p)

  pub trailed_slot_keeps : Keeps (trailed_slot side price)
  unfolding trailed_slot trailed
  trailed_slot_keeps = record { empty = refl; full = λ t. go t (is_side side (side_of t)) }
    where
      go : (t : StopEntry) (s : Bool) → (u : StopEntry) × (held (cond s (trailed price t) t) ≡ held u) × Same t u
      go t true = (trailed price t, refl, record { id = refl; seq = refl; side = (trailed_keeps price t).0 })
      go t false = (t, refl, record { id = refl; seq = refl; side = refl })

  pub trailed_on-valid : (b : Book) → Valid b → Valid (trailed_on side price b)
  unfolding trailed_on
  trailed_on-valid b v =
      mapped-valid (trailed_slot side price) trailed_slot_keeps b
      (λ s e. trailed_slot_all (λ u. sound_stop b.next b.tick u ≡ true) s e
      (λ t q. trailed_sound b.next b.tick price t (rw q at e))) v

  pub trailed_on_fits : (b : Book) → price.0 < 2 ^ 64 → Fits b → Fits (trailed_on side price b)
  unfolding trailed_on
  trailed_on_fits b p h =
      mapped_fits (trailed_slot side price) trailed_slot_keeps b
      (λ s f. trailed_slot_all SlotFits s f (λ t q. trailed_fits price t p (rw q at f))) h
