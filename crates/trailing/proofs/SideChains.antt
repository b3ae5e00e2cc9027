-- The two chains of a side are put in order, where the records hold the stops of a book and the chains are those of the
-- book before: then the words are those of the new book.
use Prim.Native.Nat.{ℕ}
use mathlib.Core.Path.{◌≡◌, refl, sym, ◌∙◌, fun_ext}
use mathlib.Core.Logic.{◌≢◌}
use mathlib.Core.List.{List}
use Rattle.pricelevel.specs.declared.Side.{Side}
use Rattle.book.specs.Valid.{Valid, Fits}
use Rattle.book.specs.Book.{Slot, held, Book, side_of}
use Rattle.book.specs.Words.{chain_indices}
use Rattle.book.specs.declared.Chain.{Chain}
use Rattle.book.specs.declared.Chain.TheVariants.{ByStop, ByWatermark}
use Rattle.book.specs.declared.StopEntry.{StopEntry}
use Rattle.chains.proofs.Names.{upd_other, upd_all, stop_watermark, upd_same, other_side}
use Rattle.chains.specs.Chained.{Chained, Kept, upd}
use Rattle.book.specs.declared.StoreChain.{StoreChain}
use Rattle.book.specs.declared.StoreChain.TheVariants.{Ordered, Free}
use Rattle.chains.specs.Indices.{sort_ranked, RanksDiffer}
use Rattle.chains.specs.Rank.{rank_at}
use Rattle.pending_stops.proofs.Contents.{holds-stored}
use Rattle.book.specs.Chains.{chains_of}
use Rattle.pending_stops.proofs.StoredWords.{contents_kept}
use Rattle.pending_stops.specs.Stored.{Stored}
use Rattle.trailing.proofs.Mapped.{Keeps, mapped, unmoved, words_differ, words_resorted}
use Rattle.resort.proofs.Relinks.{kept_refl}
use Rattle.trailing.specs.Trail.{Unsorted}

-- the chains of a side are two
-- v is w with the chain c in order
abbrev pub Resorted : ℕ → List ℕ → List ℕ → Chain → Type 0
Resorted n w v c =
    (ch : StoreChain → List ℕ) → Chained n w ch → RanksDiffer (rank_at c w) (ch (Ordered c))
    → Chained n v (upd (Ordered c) (sort_ranked (rank_at c w) (ch (Ordered c))) ch)

module _ (f : Slot → Slot) (k : Keeps f) (b : Book) (bf : Fits b) (v : Valid (mapped f b)) (mf : Fits (mapped f b))
    (side : Side) (others : (t : StopEntry) → side ≢ side_of t → f (held t) ≡ held t)
    (n : ℕ) (w1 r : List ℕ) (u : Unsorted n w1 b (mapped f b) r) where
  stops_differ : RanksDiffer (rank_at (ByStop side) w1) (chain_indices (ByStop side) b)
  stops_differ = words_differ f k b bf v mf (ByStop side) u.contents

  pub stops_ready : (ch : StoreChain → List ℕ) × Chained n w1 ch
      × RanksDiffer (rank_at (ByStop side) w1) (ch (Ordered (ByStop side)))
  stops_ready = (chains_of b, u.chained, stops_differ)

  module _ (w2 : List ℕ) (k2 : Kept n w1 w2) (s2 : Resorted n w1 w2 (ByStop side)) where
    abbrev half : StoreChain → List ℕ
    half = upd (Ordered (ByStop side)) (chain_indices (ByStop side) (mapped f b)) (chains_of b)

    chained2 : Chained n w2 half
    chained2 = rw (words_resorted f k b bf v mf (ByStop side) u.contents) at
        (s2 (chains_of b) u.chained stops_differ)

    watermarks : half (Ordered (ByWatermark side)) ≡ chain_indices (ByWatermark side) b
    watermarks = upd_other (Ordered (ByStop side)) (Ordered (ByWatermark side))
        (chain_indices (ByStop side) (mapped f b)) (chains_of b) (stop_watermark side)

    watermarks_differ : RanksDiffer (rank_at (ByWatermark side) w2) (half (Ordered (ByWatermark side)))
    watermarks_differ = rw watermarks
        (words_differ f k b bf v mf (ByWatermark side) (contents_kept u.contents w2 k2))

    pub watermarks_ready : (ch : StoreChain → List ℕ) × Chained n w2 ch
        × RanksDiffer (rank_at (ByWatermark side) w2) (ch (Ordered (ByWatermark side)))
    watermarks_ready = (half, chained2, watermarks_differ)

    abbrev whole : StoreChain → List ℕ
    whole = upd (Ordered (ByWatermark side)) (chain_indices (ByWatermark side) (mapped f b)) half

    same : (a : StoreChain) → whole a ≡ chains_of (mapped f b) a
    same =
        upd_all (λ a l. l ≡ chains_of (mapped f b) a) (Ordered (ByWatermark side)) _ half refl
        (λ a nw. upd_all (λ a l. Ordered (ByWatermark side) ≢ a → l ≡ chains_of (mapped f b) a)
        (Ordered (ByStop side)) _ (chains_of b) (λ _. refl) rest a nw)
      where
        rest : (a : StoreChain) → Ordered (ByStop side) ≢ a → Ordered (ByWatermark side) ≢ a
            → chains_of b a ≡ chains_of (mapped f b) a
        rest (Ordered c) ns nw = unmoved f k b bf v mf c (λ t e. others t (λ q. other_side side c ns nw (e ∙ sym q)))
        rest Free ns nw = refl

    whole-stored : (w3 : List ℕ) → Kept n w2 w3 → Chained n w3 whole → Stored n w3 (mapped f b) r
    whole-stored w3 k3 chained3 =
        holds-stored n w3 (mapped f b) r v mf
        (record {
          contents = contents_kept (contents_kept u.contents w2 k2) w3 k3;
          chained = rw (← fun_ext same) chained3;
        })

    pub sorted-stored : (w3 : List ℕ) → Kept n w2 w3 → Resorted n w2 w3 (ByWatermark side) → Stored n w3 (mapped f b) r
    sorted-stored w3 k3 s3 =
        whole-stored w3 k3
        (rw (watermarks, words_resorted f k b bf v mf (ByWatermark side) (contents_kept u.contents w2 k2)) at
        (s3 half chained2 watermarks_differ))

    -- the watermark chain was in order
    pub same-stored : chain_indices (ByWatermark side) (mapped f b) ≡ chain_indices (ByWatermark side) b
        → Stored n w2 (mapped f b) r
    same-stored e =
        whole-stored w2 (kept_refl n w2)
        (rw (upd_same (Ordered (ByWatermark side))
        (chain_indices (ByWatermark side) (mapped f b)) half (e ∙ sym watermarks)) chained2)
