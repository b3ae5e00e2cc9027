-- An elected stop leaves from the head of the stop chain, when it has left the watermark chain: what each step asks,
-- and what the last one leaves.
use Prim.Native.Nat.{ℕ, ◌-◌}
use native.Mathlib.Omega.{arith}
use mathlib.Core.Path.{◌≡◌, refl, sym, ap, subst, fun_ext, ◌∙◌}
use mathlib.Core.Logic.{◌≢◌}
use mathlib.Core.List.{List, ◌∷◌}
use lib.Dec.{T}
use lib.Seq.{sets}
use Rattle.pricelevel.specs.declared.Price.{Price}
use Rattle.pricelevel.specs.declared.Side.{Side}
use Rattle.book.proofs.Operations.{vacated-valid, vacated_fits}
use Rattle.book.proofs.Places.{slot_long, with_links_watermark}
use Rattle.book.specs.Steps.{taken_on}
use Rattle.book.specs.Book.{vacant, Book}
use Rattle.book.specs.Store.{vacated}
use Rattle.book.specs.Words.{chain_indices, cell, record_word, data_words}
use Rattle.book.specs.Sizes.{next_by_watermark}
use Rattle.book.specs.declared.Chain.TheVariants.{ByStop, ByWatermark}
use Rattle.chains.proofs.Data.{ready_sets, sets_word}
use Rattle.chains.proofs.Members.{has_here}
use Rattle.chains.proofs.Names.{free_group, of_free, stop_watermark, upd_here, upd_other, upd_all, other_side}
use Rattle.chains.specs.Chained.{Chained, Kept, Ready, upd}
use Rattle.book.specs.Chains.{head_of, link_of, Member, chains_of}
use Rattle.book.specs.declared.StoreChain.{StoreChain}
use Rattle.book.specs.declared.StoreChain.TheVariants.{Ordered, Free}
use Rattle.chains.specs.Indices.{remove, has}
use Rattle.chains.specs.Links.{Linked}
use Rattle.chains.specs.Records.{Record}
use Rattle.pending_stops.proofs.ChainChanges.{chain_member, vacated_absent, chain_out, chain-other}
use Rattle.pending_stops.proofs.Unchained.{chains_without}
use Rattle.pending_stops.proofs.StoredWords.{record_of, record_of_length, contents_kept, contents-written}
use Rattle.electing.proofs.Elected.{First}
use Rattle.electing.proofs.Remainder.{taken_fits}
use Rattle.electing.proofs.Departures.{first_in_book, taken_vacant, taken_step}
use Rattle.electing.specs.Elected.{dropped_chains, Dropped}

------------------------------------------------------------------------
-- The chains

-- those of a book without record i, but for the watermark chain of a side, which the elected have left
abbrev pub dropped_without : Side → Price → ℕ → Book → StoreChain → List ℕ
dropped_without side price i b =
    upd (Ordered (ByWatermark side)) (chain_indices (ByWatermark side) (taken_on side price (vacated i b)))
    (chains_without i b)

-- the chains of a side are two
watermark_stop : (side : Side) → Ordered (ByWatermark side) ≢ Ordered (ByStop side)
watermark_stop side e = stop_watermark side (sym e)

-- record i becomes the first of the free chain
freed_chains : (side : Side) (price : Price) (i : ℕ) (b : Book) (a : StoreChain)
    → upd Free (i ∷ dropped_without side price i b Free)
    (dropped_without side price i b) a ≡ dropped_chains side price (vacated i b) a
unfolding vacated
freed_chains side price i b =
    upd_all (λ a l. l ≡ dropped_chains side price (vacated i b) a) Free _ (dropped_without side price i b)
    (ap (λ (l : List ℕ). i ∷ l)
    (upd_other (Ordered (ByWatermark side)) Free _ (chains_without i b) (of_free (ByWatermark side)))
    ∙ sym (upd_other (Ordered (ByWatermark side)) Free _ (chains_of (vacated i b)) (of_free (ByWatermark side))))
    (upd_all (λ a l. Free ≢ a → l ≡ dropped_chains side price (vacated i b) a)
    (Ordered (ByWatermark side)) _ (chains_without i b)
    (λ nf. sym (upd_here (Ordered (ByWatermark side)) _ (chains_of (vacated i b))))
    (λ a nw nf. others a nf ∙ sym (upd_other (Ordered (ByWatermark side)) a _ (chains_of (vacated i b)) nw)))
  where
    others : (a : StoreChain) → Free ≢ a → chains_without i b a ≡ chains_of (vacated i b) a
    others (Ordered c) nf = refl
    others Free nf = absurd (nf refl)

------------------------------------------------------------------------
-- The steps

-- what taking record i out of a chain does to them all
abbrev pub TakenOut : ℕ → List ℕ → List ℕ → StoreChain → ℕ → Type 0
TakenOut n w v a i = (ch : StoreChain → List ℕ) → Chained n w ch → T (has i (ch a))
    → Chained n v (upd a (remove i (ch a)) ch)

-- and putting it in front of the free chain
abbrev pub Pushed : ℕ → List ℕ → List ℕ → ℕ → Type 0
Pushed n w v i = (ch : StoreChain → List ℕ) → Ready n w ch i → record_word w i next_by_watermark ≡ 0
    → Chained n v (upd Free (i ∷ ch Free) ch)

module _ {side : Side} {price : Price} {n : ℕ} {w : List ℕ} {count : ℕ} {b : Book} {r : List ℕ}
    (d : Dropped side price n w count b r) where
  stop-chain : dropped_chains side price b (Ordered (ByStop side)) ≡ chain_indices (ByStop side) b
  stop-chain = upd_other (Ordered (ByWatermark side)) (Ordered (ByStop side)) _ (chains_of b) (watermark_stop side)

  pub dropped_linked : Linked n w (link_of (ByStop side)) (head_of (ByStop side)) (chain_indices (ByStop side) b)
  dropped_linked = rw stop-chain at (d.chained.linked (Ordered (ByStop side)))

  module _ {i : ℕ} (q : First side price b i) where
    abbrev m : Member side b.slots i
    m = q.member

    pub in_stops : T (has i (dropped_chains side price b (Ordered (ByStop side))))
    in_stops = rw (stop-chain, q.first) (has_here i q.rest)

    module _ (w1 : List ℕ) (k1 : Kept n w w1) (u1 : TakenOut n w w1 (Ordered (ByStop side)) i) where
      chains1 : (a : StoreChain)
          → upd (Ordered (ByStop side)) (remove i (dropped_chains side price b (Ordered (ByStop side))))
          (dropped_chains side price b) a
          ≡ dropped_without side price i b a
      chains1 =
          upd_all (λ a l. l ≡ dropped_without side price i b a) (Ordered (ByStop side)) _ (dropped_chains side price b)
          (ap (remove i) stop-chain ∙ sym (chain_out (ByStop side) b d.valid d.fits i m.from)
          ∙ sym (upd_other (Ordered (ByWatermark side)) (Ordered (ByStop side)) _ (chains_without i b)
          (watermark_stop side)))
          (upd_all (λ a l. Ordered (ByStop side) ≢ a → l ≡ dropped_without side price i b a)
          (Ordered (ByWatermark side)) _ (chains_of b)
          (λ ns. ap (chain_indices (ByWatermark side)) (sym (taken_step d.valid d.fits q))
          ∙ sym (upd_here (Ordered (ByWatermark side)) _ (chains_without i b)))
          (λ a nw ns. others a nw ns ∙ sym (upd_other (Ordered (ByWatermark side)) a _ (chains_without i b) nw)))
        where
          others : (a : StoreChain) → Ordered (ByWatermark side) ≢ a → Ordered (ByStop side) ≢ a
              → chains_of b a ≡ chains_without i b a
          others (Ordered c) nw ns =
              sym (chain-other c b d.valid d.fits i m.from m.entry m.there
              (λ e. other_side side c ns nw (e ∙ sym m.is_of_side)))
          others Free nw ns = refl

      ready1 : Ready n w1 (dropped_without side price i b) i
      ready1 = record {
        chained = subst (λ (ch : StoreChain → List ℕ). Chained n w1 ch) (fun_ext chains1)
            (u1 (dropped_chains side price b) d.chained in_stops);
        least = m.from;
        most = rw d.contents.records at m.to;
        out = upd_all (λ a l. T (has i l) → ⊥) (Ordered (ByWatermark side)) _ (chains_without i b) gone others;
      }
        where
          gone : T (has i (chain_indices (ByWatermark side) (taken_on side price (vacated i b)))) → ⊥
          gone t =
              let fits = taken_fits side price (vacated i b) (vacated_fits i b d.fits) in
              let held = (chain_member (ByWatermark side) (taken_on side price (vacated i b)) fits i t).there in
              let vacant = taken_vacant d.valid d.fits q in
              let z : ◌≡◌ {A = ℕ} 0 1 = cc in
              omega arith

          others : (a : StoreChain) → Ordered (ByWatermark side) ≢ a → T (has i (chains_without i b a)) → ⊥
          others (Ordered c) nw t = vacated_absent c b d.fits i t
          others Free nw t =
              d.chained.apart (Ordered (ByStop side)) Free
              (λ g. of_free (ByStop side) (free_group (Ordered (ByStop side)) g)) i in_stops
              (rw (upd_other (Ordered (ByWatermark side)) Free (chain_indices (ByWatermark side) (taken_on side price b))
              (chains_of b) nw) t)

      pub record1 : Record n w1 i
      record1 = record { least = ready1.least; most = ready1.most; inside = ready1.chained.inside }

      module _ (w2 : List ℕ) (e2 : w2 ≡ sets w1 (cell i 0) (record_of vacant 0 0)) where
        pub ready2 : Ready n w2 (dropped_without side price i b) i
        ready2 = rw e2 (ready_sets n w1 (dropped_without side price i b) i (record_of vacant 0 0)
            (omega (arith, record_of_length vacant 0 0)) ready1)

        pub blank2 : record_word w2 i next_by_watermark ≡ 0
        blank2 =
            rw e2 (sets_word n w1 i (record_of vacant 0 0)
            (omega (arith, record_of_length vacant 0 0)) record1 next_by_watermark
            (omega (arith, record_of_length vacant 0 0))
            ∙ with_links_watermark (data_words vacant) (slot_long vacant) 0 0)

        pub left_dropped : (w3 : List ℕ) → Kept n w2 w3 → Pushed n w2 w3 i
            → Dropped side price n w3 count (vacated i b) r
        unfolding vacated
        left_dropped w3 k3 p3 = record {
          valid = vacated-valid _ b d.valid (first_in_book d.valid d.fits q);
          fits = vacated_fits i b d.fits;
          contents = contents_kept
              (rw (← e2) at (contents-written (contents_kept d.contents w1 k1) i record1 vacant 0 0)) w3 k3;
          chained = subst (λ (ch : StoreChain → List ℕ). Chained n w3 ch) (fun_ext (freed_chains side price i b))
              (p3 (dropped_without side price i b) ready2 blank2);
        }
