-- The words of a book, and when words are well formed: document 01, The store, with the holders of document 02, One.
use Rattle.std.specs.Prelude.{ℕ, zero, suc, ◌+◌, ◌-◌, ◌*◌, ◌^◌, Bool, true, cond, not, ◌&&◌, List, [], ◌∷◌, ◌++◌, leb, ltb, eqb, length, get_or, take, drop, replicate, is_none}
use Rattle.pricelevel.specs.Holder.{holder_words, holder_of}
use Rattle.pricelevel.specs.Identity.{kind_number, same_id}
use Rattle.pricelevel.specs.Side.{side_number}
use Rattle.pricelevel.specs.Tick.{on_tick}
use Rattle.pricelevel.specs.declared.IdKind.{IdKind}
use Rattle.pricelevel.specs.declared.IdKind.TheVariants.{Uuid, Ulid, Sequential}
use Rattle.pricelevel.specs.declared.Side.{Side}
use Rattle.pricelevel.specs.declared.Side.TheVariants.{Buy, Sell}
use Rattle.stop_terms.specs.Terms.{inconsistency_of, inconsistency_number}
use Rattle.stop_terms.specs.declared.StopTerms.{StopTerms}
use Rattle.book.specs.Book.{Slot, vacant, held, Book, Chain, ByStop, ByWatermark, side_of, stop_of, watermark_of, seq_of, chain, indices, pending_count}
use Rattle.book.specs.Lists.{head_or0, every, same_list, sort_by}
use Rattle.book.specs.Sizes.{header_length, record_length, most_records, store_length, next_by_stop, data_length}
use Rattle.book.specs.declared.StopEntry.{StopEntry}

------------------------------------------------------------------------
-- From a book to its words

-- the index after i in a chain, 0 at its end
unfoldable pub next_in : List ℕ → ℕ → ℕ
next_in [] i = 0
next_in (j ∷ l) i = cond (eqb i j) (head_or0 l) (next_in l i)

unfoldable pub chain_indices : Chain → Book → List ℕ
chain_indices c b = indices (chain c b.slots)

-- heads: 4 sell stop, 5 sell watermark, 6 buy stop, 7 buy watermark, 8 free
unfoldable pub header : Book → List ℕ
header b =
    length b.slots ∷ pending_count b.slots ∷ b.next ∷ b.tick
    ∷ head_or0 (chain_indices (ByStop Sell) b) ∷ head_or0 (chain_indices (ByWatermark Sell) b)
    ∷ head_or0 (chain_indices (ByStop Buy) b) ∷ head_or0 (chain_indices (ByWatermark Buy) b)
    ∷ head_or0 b.free ∷ []

-- the words of a record that are no link: kind, identity high, identity low, side, stop, watermark, trail, quantity,
-- sequence, and behind the links the holder; those of a free one are zero
unfoldable pub data_words : Slot → List ℕ
data_words vacant = replicate data_length 0
data_words (held t) =
    kind_number t.id.kind ∷ t.id.high ∷ t.id.low ∷ side_number (side_of t) ∷ stop_of t ∷ watermark_of t ∷ t.terms.trail
    ∷ t.quantity.0 ∷ seq_of t ∷ holder_words t.holder

-- the two links: the free chain goes through next by stop
unfoldable pub after_by_stop : Book → ℕ → Slot → ℕ
after_by_stop b i vacant = next_in b.free i
after_by_stop b i (held t) = next_in (chain_indices (ByStop (side_of t)) b) i

unfoldable pub after_by_watermark : Book → ℕ → Slot → ℕ
after_by_watermark b i vacant = 0
after_by_watermark b i (held t) = next_in (chain_indices (ByWatermark (side_of t)) b) i

-- the links stand at their places among the data
unfoldable pub with_links : List ℕ → ℕ → ℕ → List ℕ
with_links words byStop byWatermark = take next_by_stop words ++ (byStop ∷ byWatermark ∷ drop next_by_stop words)

-- data word k of a record, by what it holds
abbrev pub data_word : Slot → ℕ → ℕ
data_word s k = get_or (with_links (data_words s) 0 0) k 0

unfoldable pub record_words : Book → ℕ → Slot → List ℕ
record_words b i s = with_links (data_words s) (after_by_stop b i s) (after_by_watermark b i s)

unfoldable pub records_words : Book → ℕ → List Slot → List ℕ
records_words b i [] = []
records_words b i (s ∷ ss) = record_words b i s ++ records_words b (suc i) ss

unfoldable pub layout : Book → List ℕ
layout b = header b ++ records_words b 1 b.slots

------------------------------------------------------------------------
-- From words to a book

-- where word k of record i stands, and the word
unfoldable pub cell : ℕ → ℕ → ℕ
cell i k = header_length + record_length * (i - 1) + k

unfoldable pub record_word : List ℕ → ℕ → ℕ → ℕ
record_word w i k = get_or w (cell i k) 0

unfoldable pub kind_of : ℕ → IdKind
kind_of zero = Uuid
kind_of (suc zero) = Ulid
kind_of (suc (suc k)) = Sequential

unfoldable pub side_from : ℕ → Side
side_from zero = Buy
side_from (suc k) = Sell

unfoldable pub entry_at : List ℕ → ℕ → StopEntry
entry_at w i = record {
  id = record { kind = kind_of (record_word w i 0); high = record_word w i 1; low = record_word w i 2 };
  terms = record {
    side = side_from (record_word w i 3);
    stop = record { 0 = record_word w i 4 };
    watermark = record { 0 = record_word w i 5 };
    trail = record_word w i 6;
  };
  quantity = record { 0 = record_word w i 7 };
  seq = record { 0 = record_word w i 8 };
  holder = holder_of (record_word w i 11) (record_word w i 12) (record_word w i 13) (record_word w i 14);
}

-- a pending record has a quantity of at least 1, a free one zero words
unfoldable pub slot_at : List ℕ → ℕ → Slot
slot_at w i = cond (eqb (record_word w i 7) 0) vacant (held (entry_at w i))

-- k records from index i on
unfoldable pub slots_at : List ℕ → ℕ → ℕ → List Slot
slots_at w i zero = []
slots_at w i (suc k) = slot_at w i ∷ slots_at w (suc i) k

-- the free chain from index i on, of at most k records
unfoldable pub free_from : List ℕ → ℕ → ℕ → List ℕ
free_from w zero i = []
free_from w (suc k) i = cond (eqb i 0) [] (i ∷ free_from w k (record_word w i next_by_stop))

unfoldable pub book_of : List ℕ → Book
book_of w = record {
  next = get_or w 2 0;
  tick = get_or w 3 0;
  slots = slots_at w 1 (get_or w 0 0);
  free = free_from w (get_or w 0 0) (get_or w 8 0);
}

------------------------------------------------------------------------
-- Well formed

unfoldable pub consistent : StopTerms → Bool
consistent t = is_none (inconsistency_number (inconsistency_of t))

-- sequence below word 2; quantity and trail at least 1; no inconsistency; trail a multiple of a non-zero tick
unfoldable pub sound_stop : ℕ → ℕ → Slot → Bool
sound_stop next tick vacant = true
sound_stop next tick (held t) =
    ltb (seq_of t) next && (leb 1 t.quantity.0 && (consistent t.terms && on_tick tick t.terms.trail))

-- identities differ, sequences differ
unfoldable pub differs : StopEntry → Slot → Bool
differs t vacant = true
differs t (held u) = not (same_id t.id u.id) && not (eqb (seq_of t) (seq_of u))

unfoldable pub all_differ : List Slot → Bool
all_differ [] = true
all_differ (vacant ∷ ss) = all_differ ss
all_differ (held t ∷ ss) = every (differs t) ss && all_differ ss

-- the free chain holds all others: its indices, in rising order, are those of the vacant records
unfoldable pub vacant_indices : ℕ → List Slot → List ℕ
vacant_indices i [] = []
vacant_indices i (vacant ∷ ss) = i ∷ vacant_indices (suc i) ss
vacant_indices i (held t ∷ ss) = vacant_indices (suc i) ss

abbrev pub sort_rising : List ℕ → List ℕ
sort_rising l = sort_by ltb l

unfoldable pub valid : Book → Bool
valid b =
    (leb 1 (length b.slots) && leb (length b.slots) most_records)
    && (every (sound_stop b.next b.tick) b.slots
    && (all_differ b.slots && same_list (sort_rising b.free) (vacant_indices 1 b.slots)))

-- 64-bit words
unfoldable pub are_words : List ℕ → Bool
are_words l = every (λ x. ltb x (2 ^ 64)) l

-- n in range and its words there; the words are those of a book that is valid: chains, heads, links and count are
-- right, and the words of free records zero
unfoldable pub well_formed : List ℕ → Bool
well_formed w =
    leb (store_length (get_or w 0 0)) (length w)
    && (are_words (take (store_length (get_or w 0 0)) w)
    && (valid (book_of w) && same_list (take (store_length (get_or w 0 0)) w) (layout (book_of w))))
