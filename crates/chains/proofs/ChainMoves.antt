-- Laws for the functions that move a record between chains: what they may walk and write, and what is then true of the
-- five chains.
use Prim.Native.Nat.{ℕ, ◌≤◌}
use mathlib.Core.Path.{◌≡◌, refl, sym}
use mathlib.Core.Logic.{◌≢◌}
use mathlib.Core.List.{List, ◌∷◌}
use lib.Dec.{T}
use lib.ListN.{get_or, set}
use Rattle.pricelevel.specs.declared.Side.{Side}
use Rattle.book.specs.Words.{cell, record_word}
use Rattle.book.specs.declared.Chain.{Chain}
use Rattle.book.specs.declared.Chain.TheVariants.{ByStop, ByWatermark}
use Rattle.chains.proofs.Chained.{chained_range, chained_record, kept_out, chained_out, chained_in, chained_first}
use Rattle.chains.proofs.Kept.{kept-rank}
use Rattle.chains.proofs.OneChain.{spot_stop, linked_distinct}
use Rattle.chains.proofs.Members.{has_here, distinct_absent, remove_here, remove_out}
use Rattle.chains.proofs.Names.{free_group, side_group, of_free, stop_watermark, upd_other, upd_all}
use Rattle.chains.proofs.RankedSort.{insert_ranked_cong}
use Rattle.chains.specs.Chained.{Chained, Kept, Outside, On, Ready, upd, without, within}
use Rattle.book.specs.Chains.{group_of, head_of, link_of}
use Rattle.book.specs.declared.StoreChain.{StoreChain}
use Rattle.book.specs.declared.StoreChain.TheVariants.{Ordered, Free}
use Rattle.chains.specs.Indices.{insert_ranked, remove, has}
use Rattle.chains.specs.Links.{Linked, place, spot, put_in, put_out}
use Rattle.chains.specs.Rank.{rank_at}
use Rattle.chains.specs.Records.{Record}
use Rattle.book.specs.Sizes.{next_by_stop, next_by_watermark}

------------------------------------------------------------------------
-- One of the four chains

module _ (n : ℕ) (w v : List ℕ) (c : Chain) (i k p : ℕ) (ek : k ≡ link_of c) (ep : p ≡ head_of c) where
  -- v is w with record i taken out
  pub taken_out : (ch : StoreChain → List ℕ) → Chained n w ch → T (has i (ch (Ordered c)))
      → ((l : List ℕ) → Linked n w k p l → v ≡ put_out w k i (spot k i p l))
      → Kept n w v × Chained n v (upd (Ordered c) (remove i (ch (Ordered c))) ch)
  taken_out ch s h e =
      let q = rw (ek, ep) at (e (ch (Ordered c)) (rw (ek, ep) (s.linked (Ordered c)))) in
      rw q (kept_out n w ch s (Ordered c) i h, chained_out n w ch s (Ordered c) i h)

  -- v is w with record i put in
  pub put_into : (rk : ℕ → ℕ) (ch : StoreChain → List ℕ) → Chained n w ch → Outside n ch (Ordered c) i
      → ((l : List ℕ) → Linked n w k p l → v ≡ put_in w k i (place rk k i p l))
      → Kept n w v × Chained n v (upd (Ordered c) (insert_ranked rk i (ch (Ordered c))) ch)
  put_into rk ch s o e =
      let q = rw (ek, ep) at (e (ch (Ordered c)) (rw (ek, ep) (s.linked (Ordered c)))) in
      rw q (chained_in n w ch s (Ordered c) i o rk (λ f. absurd (of_free c f)))

------------------------------------------------------------------------
-- The free chain

module _ (n : ℕ) (w : List ℕ) (ch : StoreChain → List ℕ) where
  pub ready_outside : (i : ℕ) → Ready n w ch i → (a : StoreChain) → Outside n ch a i
  ready_outside i r a = record { least = r.least; most = r.most; other = λ b g. r.out b; own = r.out a }

  -- record i goes in front
  pub pushed : (i : ℕ) → Ready n w ch i → record_word w i next_by_watermark ≡ 0
      → Kept n w (put_in w 9 i 8) × Chained n (put_in w 9 i 8) (upd Free (i ∷ ch Free) ch)
  pushed i r z = chained_first n w ch r.chained Free i (ready_outside i r Free) (λ _. z)

  -- the first is taken out
  module _ (s : Chained n w ch) (i : ℕ) (l : List ℕ) (e : ch Free ≡ i ∷ l) where
    pub popped_first : get_or w 8 0 ≡ i
    popped_first = (rw e at (s.linked Free)).0

    first-has : T (has i (ch Free))
    first-has = rw e (has_here i l)

    pub popped_record : Record n w (get_or w 8 0)
    popped_record = rw popped_first (chained_record n w ch s Free i first-has)

    popped_ready : (v : List ℕ) → Chained n v (upd Free l ch) → Ready n v (upd Free l ch) i
    popped_ready v t =
        let r = chained_range n w ch s Free i first-has in
        record {
          chained = t;
          least = r.0;
          most = r.1;
          out = upd_all (λ a m. T (has i m) → ⊥) Free l ch
              (distinct_absent i l (rw e at (linked_distinct n 9 w 8 (ch Free) (s.linked Free))))
              (λ a ne. s.apart Free a (λ g. ne (sym (free_group a (sym g)))) i first-has);
        }

    pub popped : (at : ℕ) → at ≡ cell (get_or w 8 0) next_by_stop
        → Kept n w (set w 8 (get_or w at 0)) × Ready n (set w 8 (get_or w at 0)) (upd Free l ch) i
    popped at ea =
        let q : spot 9 i 8 (ch Free) ≡ 8 = rw e (spot_stop 9 i 8 i l refl) in
        let m : remove i (ch Free) ≡ l = rw e (remove_here i l) in
        rw (ea, popped_first) (
          rw q at (kept_out n w ch s Free i first-has),
          popped_ready _ (rw (q, m) at (chained_out n w ch s Free i first-has)),
        )

------------------------------------------------------------------------
-- The two chains of a side, one after the other

watermarks_same : (side : Side) (l : List ℕ) (ch : StoreChain → List ℕ)
    → upd (Ordered (ByStop side)) l ch (Ordered (ByWatermark side)) ≡ ch (Ordered (ByWatermark side))
watermarks_same side l ch = upd_other (Ordered (ByStop side)) (Ordered (ByWatermark side)) l ch (stop_watermark side)

-- i is taken out of one chain, and of the other
module _ (n : ℕ) (w v : List ℕ) (ch : StoreChain → List ℕ) (side : Side) (i : ℕ) (on : On n w ch side i)
    (first : (c : StoreChain → List ℕ) → Chained n w c → T (has i (c (Ordered (ByStop side))))
    → Chained n v (upd (Ordered (ByStop side)) (remove i (c (Ordered (ByStop side)))) c)) where
  abbrev pub half_out : StoreChain → List ℕ
  half_out = upd (Ordered (ByStop side)) (remove i (ch (Ordered (ByStop side)))) ch

  pub unlinked_half : Chained n v half_out × T (has i (half_out (Ordered (ByWatermark side))))
  unlinked_half = (first ch on.chained on.stops, rw watermarks_same on.watermarks)

  gone : (c : Chain) → T (has i (remove i (ch (Ordered c)))) → ⊥
  gone c = remove_out i (ch (Ordered c))
      (linked_distinct n (link_of c) w (head_of c) (ch (Ordered c)) (on.chained.linked (Ordered c)))

  pub unlinked : (u : List ℕ)
      → ((c : StoreChain → List ℕ) → Chained n v c → T (has i (c (Ordered (ByWatermark side))))
      → Chained n u (upd (Ordered (ByWatermark side)) (remove i (c (Ordered (ByWatermark side)))) c))
      → Ready n u (without side i ch) i
  unlinked u second =
      let r = chained_range n w ch on.chained _ i on.stops in
      record {
        chained = rw watermarks_same at (second half_out unlinked_half.0 unlinked_half.1);
        least = r.0;
        most = r.1;
        out = upd_all (λ a l. T (has i l) → ⊥) (Ordered (ByWatermark side)) _ half_out (gone (ByWatermark side))
            (λ a nw. upd_all (λ a l. Ordered (ByWatermark side) ≢ a → T (has i l) → ⊥)
            (Ordered (ByStop side)) _ ch (λ _. gone (ByStop side))
            (λ a ns nw. on.chained.apart _ a (side_group side a ns nw) i on.stops) a nw);
      }

-- i is put into one chain, and into the other
module _ (n : ℕ) (w v : List ℕ) (ch : StoreChain → List ℕ) (side : Side) (i : ℕ) (r : Ready n w ch i)
    (kept : Kept n w v)
    (first : (c : StoreChain → List ℕ) → Chained n w c → Outside n c (Ordered (ByStop side)) i
    → Chained n v (upd (Ordered (ByStop side))
    (insert_ranked (rank_at (ByStop side) w) i (c (Ordered (ByStop side)))) c)) where
  abbrev pub half_in : StoreChain → List ℕ
  half_in = upd (Ordered (ByStop side)) (insert_ranked (rank_at (ByStop side) w) i (ch (Ordered (ByStop side)))) ch

  pub linked_half : Chained n v half_in × Outside n half_in (Ordered (ByWatermark side)) i
  linked_half = (
    first ch r.chained (ready_outside n w ch i r _),
    record {
      least = r.least;
      most = r.most;
      other = upd_all (λ a l. group_of (Ordered (ByWatermark side)) ≢ group_of a → T (has i l) → ⊥)
          (Ordered (ByStop side)) _ ch (λ g. absurd (g refl)) (λ a ne g. r.out a);
      own = rw watermarks_same (r.out _);
    },
  )

  same_place : (l : List ℕ) → ((j : ℕ) → T (has j l) → 1 ≤ j)
      → insert_ranked (rank_at (ByWatermark side) v) i l ≡ insert_ranked (rank_at (ByWatermark side) w) i l
  same_place l h =
      insert_ranked_cong (rank_at (ByWatermark side) v)
      (rank_at (ByWatermark side) w) i l (kept-rank n w v kept (ByWatermark side) i r.least)
      (λ j t. kept-rank n w v kept (ByWatermark side) j (h j t))

  pub linked_both : (u : List ℕ)
      → ((c : StoreChain → List ℕ) → Chained n v c → Outside n c (Ordered (ByWatermark side)) i
      → Chained n u (upd (Ordered (ByWatermark side))
      (insert_ranked (rank_at (ByWatermark side) v) i (c (Ordered (ByWatermark side)))) c))
      → Chained n u (within side w i ch)
  linked_both u second =
      rw (
        watermarks_same,
        same_place (ch (Ordered (ByWatermark side)))
            (λ j t. (chained_range n w ch r.chained _ j t).0),
      ) at (second half_in linked_half.0 linked_half.1)
