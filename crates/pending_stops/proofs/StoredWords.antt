-- What stores make of the contents of a store.
use Prim.Native.Nat.{ℕ, ◌-◌, ◌≤◌, ◌<◌}
use native.Mathlib.Omega.{arith}
use mathlib.Core.Path.{◌≡◌, ap, ◌∙◌}
use mathlib.Core.Logic.{◌≢◌}
use mathlib.Core.List.{List}
use borrow.Author.Tests.{eqb-true, eqb-false}
use borrow.Table.Steps.{cases}
use lib.Dec.{eqb}
use lib.ListN.{length, get_or, set, drop, length-set}
use lib.Seq.{get_or-set_same, get_or-set_other, drop-set-lt, sets}
use Rattle.book.proofs.Places.{data_words_length, slot_long, with_links_length, with_links_data}
use Rattle.book.proofs.ReadBack.{kind_of-number, side_from-number}
use Rattle.book.specs.Book.{Slot, vacant, held}
use Rattle.book.specs.Words.{cell, record_word, kind_of, side_from, entry_at, data_words, with_links, data_word}
use Rattle.book.specs.Sizes.{record_length, store_length, IsData}
use Rattle.book.specs.declared.Chain.{Chain}
use Rattle.book.specs.declared.StopEntry.{StopEntry}
use Rattle.chains.proofs.Cells.{cell_least}
use Rattle.chains.proofs.Data.{sets_word, sets_word-other, sets-header, sets-beyond}
use Rattle.chains.specs.Chained.{Kept}
use Rattle.chains.specs.Rank.{rank, rank_at}
use Rattle.chains.specs.Records.{Record}
use Rattle.chains.proofs.Ranked.{rank_in}
use Rattle.pending_stops.specs.Stored.{Contents}

-- the words that are written to a record
abbrev pub record_of : Slot → ℕ → ℕ → List ℕ
record_of s a c = with_links (data_words s) a c

pub record_of_length : (s : Slot) (a c : ℕ) → length (record_of s a c) ≡ record_length
record_of_length s a c = omega (arith, with_links_length (data_words s) (slot_long s) a c, data_words_length s)

module _ {n : ℕ} {w : List ℕ} {count next tick : ℕ} {ss : List Slot} {r : List ℕ}
    (h : Contents n w count next tick ss r) where
  -- where the header's first words stay
  same-header : (v : List ℕ) (ss' : List Slot) → length ss' ≡ n → ((k : ℕ) → k < 4 → get_or v k 0 ≡ get_or w k 0)
      → ((i k : ℕ) → 1 ≤ i → i ≤ n → IsData k → record_word v i k ≡ data_word (get_or ss' (i - 1) vacant) k)
      → drop (store_length n) v ≡ drop (store_length n) w → Contents n v count next tick ss' r
  same-header v ss' size header words beyond = record {
    records = size;
    word0 = header 0 (omega arith) ∙ h.word0;
    word1 = header 1 (omega arith) ∙ h.word1;
    word2 = header 2 (omega arith) ∙ h.word2;
    word3 = header 3 (omega arith) ∙ h.word3;
    words = words;
    beyond = beyond ∙ h.beyond;
  }

  -- heads and links say nothing of them
  pub contents_kept : (v : List ℕ) → Kept n w v → Contents n v count next tick ss r
  contents_kept v k = same-header v ss h.records k.header
      (λ i m low high l. k.words i m low l ∙ h.words i m low high l) k.beyond

  -- the same numbers
  pub contents_numbers : {c x : ℕ} → count ≡ c → next ≡ x → Contents n w c x tick ss r
  contents_numbers p q = record {
    records = h.records;
    word0 = h.word0;
    word1 = h.word1 ∙ p;
    word2 = h.word2 ∙ q;
    word3 = h.word3;
    words = h.words;
    beyond = h.beyond;
  }

  -- the count
  pub contents_count : (x : ℕ) → 1 < length w → Contents n (set w 1 x) x next tick ss r
  unfolding record_word
  contents_count x l = record {
    records = h.records;
    word0 = get_or-set_other w 1 0 x 0 (omega arith) ∙ h.word0;
    word1 = get_or-set_same w 1 x 0 l;
    word2 = get_or-set_other w 1 2 x 0 (omega arith) ∙ h.word2;
    word3 = get_or-set_other w 1 3 x 0 (omega arith) ∙ h.word3;
    words = λ i k low high l. get_or-set_other w 1 (cell i k) x 0 (λ e. omega (arith, cell_least i k))
        ∙ h.words i k low high l;
    beyond = drop-set-lt (store_length n) w 1 x (omega arith) ∙ h.beyond;
  }

  -- the next sequence
  pub contents_next : (x : ℕ) → 2 < length w → Contents n (set w 2 x) count x tick ss r
  unfolding record_word
  contents_next x l = record {
    records = h.records;
    word0 = get_or-set_other w 2 0 x 0 (omega arith) ∙ h.word0;
    word1 = get_or-set_other w 2 1 x 0 (omega arith) ∙ h.word1;
    word2 = get_or-set_same w 2 x 0 l;
    word3 = get_or-set_other w 2 3 x 0 (omega arith) ∙ h.word3;
    words = λ i k low high l. get_or-set_other w 2 (cell i k) x 0 (λ e. omega (arith, cell_least i k))
        ∙ h.words i k low high l;
    beyond = drop-set-lt (store_length n) w 2 x (omega arith) ∙ h.beyond;
  }

  -- record i holds another slot, and all else stays
  pub contents-changed : (v : List ℕ) (i : ℕ) → 1 ≤ i → i ≤ n → (s : Slot) → ((k : ℕ) → k < 4 → get_or v k 0 ≡ get_or w k 0)
      → ((k : ℕ) → IsData k → record_word v i k ≡ data_word s k)
      → ((j k : ℕ) → 1 ≤ j → IsData k → j ≢ i → record_word v j k ≡ record_word w j k)
      → drop (store_length n) v ≡ drop (store_length n) w → Contents n v count next tick (set ss (i - 1) s) r
  contents-changed v i least most s header own others beyond =
      same-header v (set ss (i - 1) s) (length-set ss (i - 1) s ∙ h.records) header
      (λ j k low high d. cases (eqb j i)
      (λ e.
      rw (eqb-true j i e, get_or-set_same ss (i - 1) s vacant (omega (arith, h.records))) (own k d))
      (λ e.
      let ne = eqb-false j i e in
      rw (get_or-set_other ss (i - 1) (j - 1) s vacant (λ q. ne (omega arith)))
      (others j k low d ne ∙ h.words j k low high d)))
      beyond

  -- the words of a record
  pub contents-written : (i : ℕ) → Record n w i → (s : Slot) (a c : ℕ)
      → Contents n (sets w (cell i 0) (record_of s a c)) count next tick (set ss (i - 1) s) r
  contents-written i at s a c =
      let ws = record_of s a c in
      let size = record_of_length s a c in
      let few : length ws ≤ record_length = omega (arith, size) in
      contents-changed (sets w (cell i 0) ws) i at.least at.most s
      (λ k l. sets-header n w i ws few k (omega arith))
      (λ k d. sets_word n w i ws few at k (rw size d.inside) ∙ with_links_data (data_words s) (slot_long s) a c k d)
      (λ j k low d ne. sets_word-other n w i ws few j k at.least low d.inside (λ q. absurd (ne q)))
      (sets-beyond n w i ws few at.least at.most)

  -- a record reads as the stop that it holds
  pub contents_entry : (i : ℕ) (t : StopEntry) → 1 ≤ i → i ≤ n → get_or ss (i - 1) vacant ≡ held t → entry_at w i ≡ t
  unfolding entry_at data_words with_links
  contents_entry i t low high e =
      let word : (k : ℕ) → IsData k → record_word w i k ≡ data_word (held t) k =
      λ k d. rw e at (h.words i k low high d) in
      λ x. record {
        id = record {
          kind = (ap kind_of (word 0 (omega arith)) ∙ kind_of-number t.id.kind) x;
          high = word 1 (omega arith) x;
          low = word 2 (omega arith) x;
        };
        terms = record {
          side = (ap side_from (word 3 (omega arith)) ∙ side_from-number t.terms.side) x;
          stop = record { 0 = word 4 (omega arith) x };
          watermark = record { 0 = word 5 (omega arith) x };
          trail = word 6 (omega arith) x;
        };
        quantity = record { 0 = word 7 (omega arith) x };
        seq = record { 0 = word 8 (omega arith) x };
        holder = record {
          0 = word 11 (omega arith) x;
          1 = word 12 (omega arith) x;
          2 = word 13 (omega arith) x;
          3 = word 14 (omega arith) x;
        };
      }

  pub contents-rank : (c : Chain) (i : ℕ) (t : StopEntry) → 1 ≤ i → i ≤ n → get_or ss (i - 1) vacant ≡ held t
      → rank_at c w i ≡ rank_in c ss i
  unfolding rank_at
  contents-rank c i t low high e = rw e (ap (rank c) (contents_entry i t low high e))
