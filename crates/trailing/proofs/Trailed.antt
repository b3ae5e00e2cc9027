-- The stops of a side have trailed, and its chains are put in order: then the words are those of the book after
-- trailing.
use Prim.Native.Nat.{ℕ, ◌<◌, ◌^◌}
use mathlib.Core.Path.{◌≡◌}
use mathlib.Core.List.{List}
use Rattle.pricelevel.specs.declared.Price.{Price}
use Rattle.pricelevel.specs.declared.Side.{Side}
use Rattle.book.specs.Steps.{trailed_slot, trailed_on}
use Rattle.book.specs.Book.{Book}
use Rattle.book.specs.Words.{chain_indices}
use Rattle.book.specs.declared.Chain.TheVariants.{ByStop, ByWatermark}
use Rattle.chains.specs.Indices.{RanksDiffer}
use Rattle.chains.specs.Chained.{Chained, Kept}
use Rattle.book.specs.declared.StoreChain.{StoreChain}
use Rattle.book.specs.declared.StoreChain.TheVariants.{Ordered}
use Rattle.chains.specs.Rank.{rank_at}
use Rattle.pending_stops.specs.Stored.{Stored}
use Rattle.trailing.proofs.SideChains.{Resorted, stops_ready, watermarks_ready, sorted-stored, same-stored}
use Rattle.trailing.proofs.Slots.{trailed_slot-other, trailed_slot_keeps, trailed_on-valid, trailed_on_fits}
use Rattle.trailing.specs.Trail.{Unsorted}

module _ (n : ℕ) (w0 : List ℕ) (b : Book) (r : List ℕ) (side : Side) (price : Price) (st : Stored n w0 b r)
    (fits : price.0 < 2 ^ 64)
    (w1 : List ℕ) (u : Unsorted n w1 b (trailed_on side price b) r) where
  pub trailed_stops : (ch : StoreChain → List ℕ) × Chained n w1 ch
      × RanksDiffer (rank_at (ByStop side) w1) (ch (Ordered (ByStop side)))
  unfolding trailed_on
  trailed_stops =
      stops_ready (trailed_slot side price) (trailed_slot_keeps side price) b st.fits
      (trailed_on-valid side price b st.valid)
      (trailed_on_fits side price b fits st.fits) side (trailed_slot-other side price) n w1 r u

  module _ (w2 : List ℕ) (k2 : Kept n w1 w2) (s2 : Resorted n w1 w2 (ByStop side)) where
    pub trailed_watermarks : (ch : StoreChain → List ℕ) × Chained n w2 ch
        × RanksDiffer (rank_at (ByWatermark side) w2) (ch (Ordered (ByWatermark side)))
    unfolding trailed_on
    trailed_watermarks =
        watermarks_ready (trailed_slot side price) (trailed_slot_keeps side price) b st.fits
        (trailed_on-valid side price b st.valid)
        (trailed_on_fits side price b fits st.fits) side (trailed_slot-other side price) n w1 r u w2 k2 s2

    pub trailed-stored : (w3 : List ℕ) → Kept n w2 w3 → Resorted n w2 w3 (ByWatermark side)
        → Stored n w3 (trailed_on side price b) r
    unfolding trailed_on
    trailed-stored w3 k3 s3 =
        sorted-stored (trailed_slot side price) (trailed_slot_keeps side price) b st.fits
        (trailed_on-valid side price b st.valid)
        (trailed_on_fits side price b fits st.fits) side (trailed_slot-other side price) n w1 r u w2 k2 s2 w3 k3 s3

    pub trailed_same : chain_indices (ByWatermark side) (trailed_on side price b) ≡ chain_indices (ByWatermark side) b
        → Stored n w2 (trailed_on side price b) r
    unfolding trailed_on
    trailed_same e =
        same-stored (trailed_slot side price) (trailed_slot_keeps side price) b st.fits
        (trailed_on-valid side price b st.valid)
        (trailed_on_fits side price b fits st.fits) side (trailed_slot-other side price) n w1 r u w2 k2 s2 e
