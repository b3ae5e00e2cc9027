-- The words of a book, as the operations see them: what the store says apart from its chains, and the five chains.
use Prim.Native.Nat.{ℕ, zero, suc, ◌+◌, ◌-◌, ◌≤◌, ◌<◌}
use native.Mathlib.Omega.{arith}
use mathlib.Core.Path.{◌≡◌, refl, sym, ap, ◌∙◌}
use mathlib.Core.Logic.{◌≢◌}
use mathlib.Core.List.{List, ◌++◌}
use borrow.Author.Tests.{eqb-true, eqb-false}
use borrow.Table.Steps.{cases}
use lib.Dec.{T, eqb}
use lib.ListN.{length, get_or, length-append, take-append-drop}
use lib.Seq.{drop_at}
use Rattle.pricelevel.specs.Side.{side_number}
use Rattle.pricelevel.specs.declared.Side.TheVariants.{Buy, Sell}
use Rattle.book.proofs.FreeChain.{VacantFrom, free_all_vacant}
use Rattle.book.proofs.Places.{layout_length, layout-header, layout_record, slot_long, with_links_stop, with_links_watermark, record_words_data}
use Rattle.book.specs.Valid.{Valid, Fits}
use Rattle.book.specs.Book.{Slot, vacant, held, Book, chain_side, side_of, pending_count}
use Rattle.book.specs.Lists.{head_or0}
use Rattle.book.specs.Words.{next_in, chain_indices, header, data_words, after_by_stop, after_by_watermark, record_words, layout, record_word}
use Rattle.book.specs.Sizes.{header_length, record_length, store_length, next_by_stop, next_by_watermark, IsData}
use Rattle.book.specs.declared.Chain.{Chain}
use Rattle.book.specs.declared.Chain.TheVariants.{ByStop, ByWatermark}
use Rattle.book.specs.declared.StopEntry.{StopEntry}
use Rattle.chains.proofs.Members.{has_all, all-has}
use Rattle.chains.specs.Chained.{Chained}
use Rattle.book.specs.Chains.{chains_of, start_of, next_of, group_of, link_of}
use Rattle.book.specs.declared.StoreChain.{StoreChain}
use Rattle.book.specs.declared.StoreChain.TheVariants.{Ordered, Free}
use Rattle.chains.specs.Indices.{has}
use Rattle.chains.proofs.Ascents.{itself, sort_ranked-within}
use Rattle.form_check.proofs.Groups.{vacant_member}
use Rattle.chains.proofs.Linked.{Names, linked_head, linked-names}
use Rattle.book.proofs.LaidOut.{layout_taken}
use Rattle.store_words.proofs.ChainsOf.{layout_linked}
use Rattle.pending_stops.proofs.ChainChanges.{chain_member, member-chain}
use Rattle.pending_stops.specs.Stored.{Stored, Contents}

------------------------------------------------------------------------
-- What the words say

pub record Holds (n : ℕ) (w : List ℕ) (b : Book) (r : List ℕ) : Type 0 where
  pub contents : Contents n w (pending_count b.slots) b.next b.tick b.slots r
  pub chained : Chained n w (chains_of b)

------------------------------------------------------------------------
-- From the layout

-- a record holds one stop, or none
held_unique : {s : Slot} {t u : StopEntry} → s ≡ held t → s ≡ held u → t ≡ u
held_unique p q = cc

held_vacant : {s : Slot} {t : StopEntry} → s ≡ held t → s ≡ vacant → ⊥
held_vacant p q = let z : ◌≡◌ {A = ℕ} 0 1 = cc in omega arith

group_side : (c : Chain) → group_of (Ordered c) ≡ side_number (chain_side c)
group_side (ByStop side) = refl
group_side (ByWatermark side) = refl

module _ (b : Book) (r : List ℕ) (v : Valid b) (f : Fits b) where
  pub free_vacant : (i : ℕ) → T (has i b.free) → VacantFrom 1 b.slots i
  free_vacant = all-has (VacantFrom 1 b.slots) b.free (free_all_vacant b v)

  chains-apart : (a c : StoreChain) → group_of a ≢ group_of c → (i : ℕ) → T (has i (chains_of b a))
      → T (has i (chains_of b c)) → ⊥
  chains-apart (Ordered c) (Ordered d) g i h k =
      let m = chain_member c b f i h in
      let o = chain_member d b f i k in
      let e : side_of m.entry ≡ side_of o.entry =
      ap (λ (t : StopEntry). side_of t) (held_unique m.there o.there) in
      g (group_side c ∙ ap side_number (m.is_of_side ∙ e ∙ sym o.is_of_side) ∙ sym (group_side d))
  chains-apart (Ordered c) Free g i h k = held_vacant (chain_member c b f i h).there (free_vacant i k).is_vacant
  chains-apart Free (Ordered d) g i h k = held_vacant (chain_member d b f i k).there (free_vacant i h).is_vacant
  chains-apart Free Free g i h k = g refl

  layout_chained : Chained (length b.slots) (layout b ++ r) (chains_of b)
  unfolding record_words after_by_watermark
  layout_chained = record {
    inside = record { few = v.few_records; room = rw length-append (omega (arith, layout_length b)) };
    linked = layout_linked b r v;
    apart = chains-apart;
    blank = λ i h.
        let g = free_vacant i h in
        rw g.is_vacant at (layout_record b r i next_by_watermark g.low (omega (arith, g.high)) (omega arith))
        ∙ with_links_watermark (data_words vacant) (slot_long vacant) (after_by_stop b i vacant) 0;
  }

  layout_contents : Contents (length b.slots) (layout b ++ r) (pending_count b.slots) b.next b.tick
      b.slots r
  unfolding header
  layout_contents = record {
    records = refl;
    word0 = layout-header b r 0 (omega arith);
    word1 = layout-header b r 1 (omega arith);
    word2 = layout-header b r 2 (omega arith);
    word3 = layout-header b r 3 (omega arith);
    words = λ i k low high h. layout_record b r i k low high h.inside
        ∙ record_words_data b i (get_or b.slots (i - 1) vacant) k h;
    beyond = drop_at (layout b) r (store_length (length b.slots)) (layout_length b);
  }

pub stored_holds : {n : ℕ} {w : List ℕ} {b : Book} {r : List ℕ} → Stored n w b r → Holds n w b r
stored_holds {n} {w} {b} {r} st =
    rw (st.words, ← st.records) (record {
      contents = layout_contents b r st.valid st.fits;
      chained = layout_chained b r st.valid st.fits;
    })

------------------------------------------------------------------------
-- To the layout

-- every vacant record is in the free chain
vacant_free : (b : Book) → Valid b → (i : ℕ) → 1 ≤ i → i ≤ length b.slots → get_or b.slots (i - 1) vacant ≡ vacant
    → T (has i b.free)
vacant_free b v i low high e =
    let InFree : ℕ → Type 0 = λ j. T (has j b.free) in
    let sorted = rw v.free_vacant at
    (sort_ranked-within itself b.free InFree (has_all InFree b.free (λ j h. h))) in
    vacant_member InFree 1 b.slots sorted i (record { low = low; high = omega arith; is_vacant = e })

module _ (n : ℕ) (w : List ℕ) (b : Book) (r : List ℕ) (v : Valid b) (f : Fits b) (h : Holds n w b r) where
  chain_head : (a : StoreChain) → get_or w (start_of a) 0 ≡ head_or0 (chains_of b a)
  chain_head a = linked_head n w (next_of a) (start_of a) (chains_of b a) (h.chained.linked a)

  chain_next : (a : StoreChain) (i : ℕ) → T (has i (chains_of b a)) → record_word w i (next_of a) ≡ next_in (chains_of b a) i
  chain_next a =
      all-has (Names n w (next_of a) (chains_of b a)) (chains_of b a)
      (linked-names n w (next_of a) (start_of a) (chains_of b a) (h.chained.linked a))

  header_words : (k : ℕ) → k < header_length → get_or w k 0 ≡ get_or (header b) k 0
  unfolding header
  header_words zero l = h.contents.word0 ∙ sym h.contents.records
  header_words (suc zero) l = h.contents.word1
  header_words (suc (suc zero)) l = h.contents.word2
  header_words (suc (suc (suc zero))) l = h.contents.word3
  header_words (suc (suc (suc (suc zero)))) l = chain_head (Ordered (ByStop Sell))
  header_words (suc (suc (suc (suc (suc zero))))) l = chain_head (Ordered (ByWatermark Sell))
  header_words (suc (suc (suc (suc (suc (suc zero)))))) l = chain_head (Ordered (ByStop Buy))
  header_words (suc (suc (suc (suc (suc (suc (suc zero))))))) l = chain_head (Ordered (ByWatermark Buy))
  header_words (suc (suc (suc (suc (suc (suc (suc (suc zero)))))))) l = chain_head Free
  header_words (suc (suc (suc (suc (suc (suc (suc (suc (suc k))))))))) l = absurd (omega arith)

  -- the links of a record
  links_words : (i : ℕ) → 1 ≤ i → i ≤ n → (s : Slot) → get_or b.slots (i - 1) vacant ≡ s
      → (record_word w i next_by_stop ≡ after_by_stop b i s) × (record_word w i next_by_watermark ≡ after_by_watermark b i s)
  unfolding after_by_stop after_by_watermark
  links_words i low high vacant e =
      let t = vacant_free b v i low (rw h.contents.records high) e in
      (chain_next Free i t, h.chained.blank i t)
  links_words i low high (held t) e = (next (ByStop (side_of t)) refl, next (ByWatermark (side_of t)) refl)
    where
      next : (c : Chain) → chain_side c ≡ side_of t → record_word w i (link_of c) ≡ next_in (chain_indices c b) i
      next c q =
          chain_next (Ordered c) i (member-chain c b f i (record {
            from = low;
            to = rw h.contents.records high;
            entry = t;
            there = e;
            is_of_side = q;
          }))

  record-words : (i k : ℕ) → 1 ≤ i → i ≤ n → k < record_length
      → record_word w i k ≡ get_or (record_words b i (get_or b.slots (i - 1) vacant)) k 0
  unfolding record_words
  record-words i k low high l =
      let s = get_or b.slots (i - 1) vacant in
      let links = links_words i low high s refl in
      cases (eqb k next_by_stop)
      (λ e. rw (eqb-true k next_by_stop e)
      (links.0 ∙ sym (with_links_stop (data_words s) (slot_long s) (after_by_stop b i s) (after_by_watermark b i s))))
      (λ e. cases (eqb k next_by_watermark)
      (λ q. rw (eqb-true k next_by_watermark q)
      (links.1 ∙ sym (with_links_watermark (data_words s) (slot_long s) (after_by_stop b i s)
      (after_by_watermark b i s))))
      (λ q.
      let d : IsData k = record {
        inside = l;
        no_stop_link = eqb-false k next_by_stop e;
        no_watermark_link = eqb-false k next_by_watermark q;
      } in
      h.contents.words i k low high d ∙ sym (record_words_data b i s k d)))

  pub holds-stored : Stored n w b r
  holds-stored = record {
    valid = v;
    fits = f;
    records = h.contents.records;
    words =
        let front = layout_taken w b header_words
        (λ i k low high. record-words i k low (rw h.contents.records at high))
        (rw h.contents.records h.chained.inside.room) in
        sym (take-append-drop (store_length n) w) ∙ rw (rw h.contents.records at front, h.contents.beyond);
  }
