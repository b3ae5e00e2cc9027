-- Two stores of one sell that differ in its holder: a segment elects it from both alike, and another moves its stop and
-- leaves its holder. Document 02, One.
use Prim.Native.Nat.{ℕ}
use mathlib.Core.Path.{◌≡◌, refl}
use mathlib.Core.Bool.{false}
use mathlib.Core.List.{List, [], ◌∷◌, ◌++◌, map}
use lib.ListN.{replicate}
use Rattle.error.specs.Questions.{first_no, decide}
use Rattle.pricelevel.specs.Holder.{holder_words, holder_of}
use Rattle.pricelevel.specs.Identity.{same_id}
use Rattle.pricelevel.specs.Tick.{on_tick}
use Rattle.pricelevel.specs.declared.Holder.{Holder}
use Rattle.pricelevel.specs.declared.IdKind.TheVariants as kind
use Rattle.pricelevel.specs.declared.Side.TheVariants.{Sell}
use Rattle.stop_terms.specs.Terms.{behind, candidate, tightened, ratcheted, trailed_at, elects, elected_at, beyond, inconsistency_of, inconsistency_number}
use Rattle.book.proofs.AlikeStores.{layouts_alike}
use Rattle.book.specs.Book.{held, Book, before, lexicographic, with_index, gather, of_side, pending_on, chain, indices, pending_count}
use Rattle.book.specs.Calls.{SegmentOutcome, elected_entry, elected_entries, counts_of, pending_in, segment_questions, segment_call}
use Rattle.book.specs.Evaluation.{trailed, leaves, vacated_if, settled, leaving_on, leaver, elected_on, elected_by, freed, changed_on, mover, moved_entry, moved_on, moved_by, fill_at, point, sells_first, falls_to, and_then, walk_from, segment}
use Rattle.book.specs.Holders.{AlikeButHolders}
use Rattle.book.specs.Lists.{head_or0, every, same_list, insert_by, sort_by}
use Rattle.book.specs.Store.{stored, stored_book}
use Rattle.book.specs.Words.{next_in, chain_indices, header, record_words, records_words, layout, cell, record_word, kind_of, side_from, entry_at, slot_at, slots_at, free_from, book_of, consistent, sound_stop, differs, all_differ, vacant_indices, valid, are_words, well_formed, data_words, after_by_stop, after_by_watermark, with_links}
use Rattle.std.specs.Prelude.{None, is_none}

-- a sell of this stop, watermark and holder, trail 5
store_of : ℕ → ℕ → Holder → List ℕ
store_of stop watermark h =
    1 ∷ 1 ∷ 1 ∷ 0 ∷ 1 ∷ 1 ∷ 0 ∷ 0 ∷ 0
    ∷ 2 ∷ 0 ∷ 7 ∷ 1 ∷ stop ∷ watermark ∷ 5 ∷ 1 ∷ 0 ∷ 0 ∷ 0 ∷ holder_words h

book_with : Holder → Book
book_with h = record {
  next = 1;
  tick = 0;
  slots = held (record {
    id = record { kind = kind.Sequential; high = 0; low = 7 };
    terms = record { side = Sell; stop = record { 0 = 95 }; watermark = record { 0 = 100 }; trail = 5 };
    quantity = record { 0 = 1 };
    seq = record { 0 = 0 };
    holder = h;
  }) ∷ [];
  free = [];
}

-- whatever the holders
stores_alike : (h k : Holder) → AlikeButHolders (store_of 95 100 h) (store_of 95 100 k)
unfolding store_of book_with layout header records_words record_words data_words after_by_stop after_by_watermark with_links next_in chain_indices chain gather with_index pending_on of_side sort_by insert_by indices pending_count head_or0
stores_alike h k = layouts_alike (book_with h) (book_with k) [] refl

------------------------------------------------------------------------
-- Segments over both, from 110 to the last price

segment_to : ℕ → Holder → SegmentOutcome
segment_to end h =
    segment_call (record { kill = false; protection = None; namespace = record { high = 0; low = 0 } })
    (record { prev = None; first = record { 0 = 110 }; last = record { 0 = end } }) (store_of 95 100 h) 1 2

-- the words, the elected by identity, stop and trigger, the moved by identity and stop
lines : SegmentOutcome → List (List ℕ)
lines o =
    o.words
    ∷ (map (λ e. e.id.low ∷ e.stop.0 ∷ e.trigger.0 ∷ []) o.elected
    ++ map (λ m. m.id.low ∷ m.stop.0 ∷ []) o.moved)

found : List (List (List ℕ))
found =
    lines (segment_to 100 (holder_of 1 2 3 4)) ∷ lines (segment_to 100 (holder_of 5 6 7 8))
    ∷ lines (segment_to 110 (holder_of 1 2 3 4)) ∷ lines (segment_to 110 (holder_of 5 6 7 8))
    ∷ []

-- the record is free, its words zero
elected : List (List ℕ)
elected = (1 ∷ 0 ∷ 1 ∷ 0 ∷ 0 ∷ 0 ∷ 0 ∷ 0 ∷ 1 ∷ replicate 15 0) ∷ (7 ∷ 105 ∷ 100 ∷ []) ∷ (7 ∷ 105 ∷ []) ∷ []

moved : Holder → List (List ℕ)
moved h = store_of 105 110 h ∷ (7 ∷ 105 ∷ []) ∷ []

examples : found ≡ elected ∷ elected ∷ moved (holder_of 1 2 3 4) ∷ moved (holder_of 5 6 7 8) ∷ []
unfolding store_of segment_to lines found elected moved before lexicographic with_index gather insert_by sort_by of_side pending_on chain indices pending_count head_or0 every same_list next_in chain_indices header record_words data_words after_by_stop after_by_watermark with_links records_words layout cell record_word kind_of side_from entry_at slot_at slots_at free_from book_of consistent sound_stop differs all_differ vacant_indices valid are_words well_formed same_id on_tick behind beyond inconsistency_of inconsistency_number candidate tightened ratcheted trailed_at elects elected_at elected_entry elected_entries counts_of pending_in segment_questions segment_call trailed leaves vacated_if settled leaving_on leaver elected_on elected_by freed changed_on mover moved_entry moved_on moved_by fill_at point sells_first falls_to and_then walk_from segment first_no decide stored stored_book
examples = refl
