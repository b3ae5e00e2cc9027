-- What trailing writes in a record: its stop and its watermark, which makes its data words those of the trailed stop.
use Prim.Native.Nat.{ℕ, zero, suc, ◌+◌, ◌-◌, ◌≤◌, ◌<◌}
use mathlib.Core.Path.{◌≡◌, refl, ap, ◌∙◌}
use mathlib.Core.Logic.{◌≢◌}
use mathlib.Core.List.{List, [], ◌∷◌}
use native.Mathlib.Omega.{arith}
use borrow.Author.Tests.{eq-eqb, ne_eqb, eqb-true, eqb-false}
use borrow.Table.Steps.{cases}
use lib.Dec.{eqb}
use lib.ListN.{get_or, set, length-set}
use lib.Seq.{get_or-set_same, get_or-set_other, drop-set-lt, sets}
use Rattle.pricelevel.specs.declared.Price.{Price}
use Rattle.stop_terms.specs.Terms.{trailed_at}
use Rattle.stop_terms.specs.declared.StopTerms.{StopTerms}
use Rattle.book.proofs.Stops.{trailed_keeps}
use Rattle.book.specs.Book.{Slot, vacant, held, stop_of, watermark_of}
use Rattle.book.specs.Evaluation.{trailed}
use Rattle.book.specs.Sizes.{record_length, store_length, IsData}
use Rattle.book.specs.Words.{cell, record_word, entry_at, data_words, with_links, data_word}
use Rattle.book.specs.declared.StopEntry.{StopEntry}
use Rattle.book.specs.declared.StoreChain.{StoreChain}
use Rattle.chains.proofs.Cells.{cell_least, cell_below, cell_plus, cell_injective}
use Rattle.chains.proofs.Chained.{chained_set_data}
use Rattle.chains.specs.Chained.{Chained}
use Rattle.chains.specs.Records.{Record}
use Rattle.pending_stops.proofs.StoredWords.{contents-changed}
use Rattle.pending_stops.specs.Stored.{Contents}
use Rattle.trailing.specs.Trail.{moves}

------------------------------------------------------------------------
-- By the terms of a record

module _ (w : List ℕ) (i : ℕ) (price : Price) (t a : StopTerms) (et : t ≡ (entry_at w i).terms)
    (ea : a ≡ trailed_at t price) where
  after : a ≡ (trailed price (entry_at w i)).terms
  unfolding trailed
  after = ea ∙ ap (λ (u : StopTerms). trailed_at u price) et

  pub terms-written : (at : ℕ) → at ≡ cell i 4
      → set (set w at a.stop.0) (at + 1) a.watermark.0
      ≡ sets w (cell i 4) (stop_of (trailed price (entry_at w i)) ∷ watermark_of (trailed price (entry_at w i)) ∷ [])
  terms-written at e = let q : at + 1 ≡ suc (cell i 4) = omega arith in rw (q, e, after)

  pub moves_not : a.stop.0 ≡ t.stop.0 → 0 ≡ moves price (entry_at w i)
  unfolding moves
  moves_not e = rw (eq-eqb (stop_of (trailed price (entry_at w i))) (stop_of (entry_at w i)) (rw (← after, ← et) e))

  pub moves_so : (a.stop.0 ≡ t.stop.0 → ⊥) → 1 ≡ moves price (entry_at w i)
  unfolding moves
  moves_so n = rw (ne_eqb (stop_of (trailed price (entry_at w i))) (stop_of (entry_at w i)) (rw (← after, ← et) n))

------------------------------------------------------------------------
-- By the stop that a record holds

-- trailing changes the stop and the watermark alone
trailed_words_same : (price : Price) (t : StopEntry) (k : ℕ) → k ≢ 4 → k ≢ 5
    → data_word (held t) k ≡ data_word (held (trailed price t)) k
unfolding data_words with_links trailed
trailed_words_same price t zero a c = refl
trailed_words_same price t (suc zero) a c = refl
trailed_words_same price t (suc (suc zero)) a c = refl
trailed_words_same price t (suc (suc (suc zero))) a c = rw (trailed_keeps price t).0
trailed_words_same price t (suc (suc (suc (suc zero)))) a c = absurd (a refl)
trailed_words_same price t (suc (suc (suc (suc (suc zero))))) a c = absurd (c refl)
trailed_words_same price t (suc (suc (suc (suc (suc (suc zero)))))) a c = rw (trailed_keeps price t).1
trailed_words_same price t (suc (suc (suc (suc (suc (suc (suc k))))))) a c = refl

module _ (n : ℕ) (w : List ℕ) (i : ℕ) (at : Record n w i) (x y : ℕ) where
  abbrev written : List ℕ
  written = sets w (cell i 4) (x ∷ y ∷ [])

  as_cells : written ≡ set (set w (cell i 4) x) (cell i 5) y
  as_cells = let e : suc (cell i 4) ≡ cell i 5 = omega (arith, cell_plus i 4, cell_plus i 5) in rw e

  elsewhere : (q : ℕ) → q ≢ cell i 4 → q ≢ cell i 5 → get_or written q 0 ≡ get_or w q 0
  elsewhere q a c = rw as_cells
      (get_or-set_other (set w (cell i 4) x) (cell i 5) q y 0 c ∙ get_or-set_other w (cell i 4) q x 0 a)

  word-other : (j k : ℕ) → 1 ≤ j → k < record_length → (j ≡ i → k ≢ 4) → (j ≡ i → k ≢ 5)
      → record_word written j k ≡ record_word w j k
  unfolding record_word
  word-other j k low d a c =
      let apart : (m : ℕ) → m < record_length → (j ≡ i → k ≢ m) → cell j k ≢ cell i m = λ m l f e.
      let q = cell_injective j i k m low at.least d l e in f q.0 q.1 in
      elsewhere (cell j k) (apart 4 (omega arith) a) (apart 5 (omega arith) c)

  stop_word : record_word written i 4 ≡ x
  unfolding record_word
  stop_word =
      rw as_cells (get_or-set_other (set w (cell i 4) x) (cell i 5)
      (cell i 4) y 0 (λ e. omega (arith, cell_plus i 4, cell_plus i 5))
      ∙ get_or-set_same w (cell i 4) x 0
      (omega (arith, cell_below n i 4 at.least at.most (omega arith), at.inside.room)))

  watermark_word : record_word written i 5 ≡ y
  unfolding record_word
  watermark_word =
      rw as_cells (get_or-set_same (set w (cell i 4) x) (cell i 5) y 0
      (rw length-set (omega (arith, cell_below n i 5 at.least at.most (omega arith), at.inside.room))))

  pub chained-written : {ch : StoreChain → List ℕ} → Chained n w ch → Chained n written ch
  chained-written c =
      rw as_cells (chained_set_data n (set w (cell i 4) x) _
      (chained_set_data n w _ c i 4 x at.least (omega arith)) i 5 y at.least (omega arith))

  module _ {count next tick : ℕ} {ss : List Slot} {r : List ℕ} (h : Contents n w count next tick ss r) where
    pub contents-trailed : (price : Price) (t : StopEntry) → get_or ss (i - 1) vacant ≡ held t
        → x ≡ stop_of (trailed price t) → y ≡ watermark_of (trailed price t)
        → Contents n written count next tick (set ss (i - 1) (held (trailed price t))) r
    unfolding data_words with_links
    contents-trailed price t e ex ey =
        contents-changed h written i at.least at.most (held (trailed price t))
        (λ k l. elsewhere k (λ q. omega (arith, cell_least i 4)) (λ q. omega (arith, cell_least i 5)))
        own
        (λ j k low d ne. word-other j k low d.inside (λ q. absurd (ne q)) (λ q. absurd (ne q)))
        (rw as_cells (drop-set-lt (store_length n) (set w (cell i 4) x)
        (cell i 5) y (cell_below n i 5 at.least at.most (omega arith))
        ∙ drop-set-lt (store_length n) w (cell i 4) x (cell_below n i 4 at.least at.most (omega arith))))
      where
        other : (k : ℕ) → IsData k → k ≢ 4 → k ≢ 5 → record_word written i k ≡ data_word (held (trailed price t)) k
        other k d a c =
            word-other i k at.least d.inside (λ _. a) (λ _. c)
            ∙ (rw e at (h.words i k at.least at.most d)) ∙ trailed_words_same price t k a c

        own : (k : ℕ) → IsData k → record_word written i k ≡ data_word (held (trailed price t)) k
        own k d = cases (eqb k 4)
            (λ q. rw (eqb-true k 4 q) (stop_word ∙ ex))
            (λ q. cases (eqb k 5) (λ p. rw (eqb-true k 5 p) (watermark_word ∙ ey))
            (λ p. other k d (eqb-false k 4 q) (eqb-false k 5 p)))
