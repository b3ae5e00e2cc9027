-- Examples of asking and committing, in one table that the checker computes: document 02, Six.
use Prim.Native.Nat.{ℕ}
use mathlib.Core.Path.{◌≡◌, refl}
use mathlib.Core.Bool.{Bool, true, false}
use mathlib.Core.List.{List, [], ◌∷◌, map}
use Rattle.error.specs.Answer.{Answer, refused, accepted}
use Rattle.error.specs.Questions.{first_no, decide}
use Rattle.pricelevel.specs.Identity.{same_id}
use Rattle.pricelevel.specs.Tick.{on_tick}
use Rattle.pricelevel.specs.declared.Id.{Id}
use Rattle.pricelevel.specs.declared.IdKind.TheVariants as kind
use Rattle.pricelevel.specs.declared.Side.TheVariants.{Sell}
use Rattle.stop_terms.specs.Terms.{behind, candidate, tightened, ratcheted, trailed_at, elects, elected_at, beyond, inconsistency_of, inconsistency_number}
use Rattle.book.specs.Book.{before, lexicographic, with_index, gather, of_side, pending_on, chain, indices, pending_count}
use Rattle.book.specs.Calls.{Counts, Settings, elected_entries, counts_of, pending_in, segment_questions, segment_call}
use Rattle.book.specs.Commit.{AskOutcome, ask_call, same_moved, same_elected, same_records, same_words, commit_questions, commit_call}
use Rattle.book.specs.Entries.{elected_words, moved_words}
use Rattle.book.specs.Evaluation.{trailed, leaves, vacated_if, settled, leaving_on, leaver, elected_on, elected_by, freed, changed_on, mover, moved_entry, moved_on, moved_by, fill_at, point, sells_first, falls_to, and_then, walk_from, segment}
use Rattle.book.specs.Lists.{head_or0, every, same_by, same_list, insert_by, sort_by}
use Rattle.book.specs.Store.{StoreOutcome, stored, stored_book}
use Rattle.book.specs.Words.{next_in, chain_indices, header, record_words, records_words, layout, cell, record_word, kind_of, side_from, entry_at, slot_at, slots_at, free_from, book_of, consistent, sound_stop, differs, all_differ, vacant_indices, valid, are_words, well_formed, data_words, after_by_stop, after_by_watermark, with_links}
use Rattle.book.specs.declared.Elected.{Elected}
use Rattle.book.specs.declared.Moved.{Moved}
use Rattle.book.specs.declared.PrintSegment.{PrintSegment}
use Rattle.std.specs.Prelude.{None, is_none}

------------------------------------------------------------------------
-- What is asked, and what is committed

settings : Bool → Settings
settings kill = record { kill = kill; protection = None; namespace = record { high = 0; low = 0 } }

-- from 100 to another price
to : ℕ → PrintSegment
to p = record { prev = None; first = record { 0 = 100 }; last = record { 0 = p } }

seven : Id
seven = record { kind = kind.Sequential; high = 0; low = 7 }

moved_to : ℕ → Moved
moved_to p = record { id = seven; stop = record { 0 = p } }

-- some entry of an elected list
some : Elected
some = record {
  id = seven;
  side = Sell;
  stop = record { 0 = 95 };
  quantity = record { 0 = 1 };
  seq = record { 0 = 0 };
  trigger = record { 0 = 94 };
  limit = None;
  child = seven;
  pending = false;
}

-- a sell (95, 100, 5) of a quantity
sell : ℕ → List ℕ
sell quantity =
    1 ∷ 1 ∷ 1 ∷ 0 ∷ 1 ∷ 1 ∷ 0 ∷ 0 ∷ 0
    ∷ 2 ∷ 0 ∷ 7 ∷ 1 ∷ 95 ∷ 100 ∷ 5 ∷ quantity ∷ 0 ∷ 0 ∷ 0 ∷ 0 ∷ 0 ∷ 0 ∷ 0
    ∷ []

-- the same after a point at 110
ratcheted_sell : ℕ → List ℕ
ratcheted_sell quantity =
    1 ∷ 1 ∷ 1 ∷ 0 ∷ 1 ∷ 1 ∷ 0 ∷ 0 ∷ 0
    ∷ 2 ∷ 0 ∷ 7 ∷ 1 ∷ 105 ∷ 110 ∷ 5 ∷ quantity ∷ 0 ∷ 0 ∷ 0 ∷ 0 ∷ 0 ∷ 0 ∷ 0
    ∷ []

------------------------------------------------------------------------
-- Answers as numbers: refused is 0 and the number; accepted 1 and the values

told : Answer Counts → List ℕ
told (refused k) = 0 ∷ k ∷ []
told (accepted c) = 1 ∷ c.moves ∷ c.elected ∷ []

asked : AskOutcome → List (List ℕ)
asked o = told o.answer ∷ map moved_words o.moved

committed : StoreOutcome Counts → List (List ℕ)
committed o = told o.answer ∷ o.words ∷ []

commit : Bool → ℕ → List ℕ → List Elected → List Moved → List (List ℕ)
commit kill p w elected moved = committed (commit_call (same_records elected moved) (settings kill) (to p) w)

commit_by_words : ℕ → List ℕ → List (List ℕ) → List (List ℕ) → List (List ℕ)
commit_by_words p w elected moved = committed (commit_call (same_words elected moved) (settings false) (to p) w)

------------------------------------------------------------------------
-- The table

found : List (List (List ℕ))
found =
    asked (ask_call (settings false) (to 110) (sell 1) 1 2)
    ∷ commit false 110 (sell 1) [] (moved_to 105 ∷ [])
    ∷ commit_by_words 110 (sell 1) [] ((2 ∷ 0 ∷ 7 ∷ 105 ∷ []) ∷ [])
    -- a change between the two that does not touch the lists, and one that does
    ∷ commit false 110 (sell 3) [] (moved_to 105 ∷ [])
    ∷ commit false 110 (ratcheted_sell 1) [] (moved_to 105 ∷ [])
    -- a field that is another, a list one shorter, one longer, and words that are no entry's
    ∷ commit false 110 (sell 1) [] (moved_to 104 ∷ [])
    ∷ commit false 110 (sell 1) [] []
    ∷ commit false 110 (sell 1) [] (moved_to 105 ∷ moved_to 105 ∷ [])
    ∷ commit false 110 (sell 1) (some ∷ []) (moved_to 105 ∷ [])
    ∷ commit_by_words 110 (sell 1) [] ((2 ∷ 0 ∷ 7 ∷ 105 ∷ 0 ∷ []) ∷ [])
    -- nothing is elected under the kill switch, and one stop where it is off
    ∷ commit true 94 (sell 1) [] []
    ∷ commit false 94 (sell 1) [] []
    -- lists as asked with no room for them; a list too short; words that are no store, whatever the lists
    ∷ asked (ask_call (settings false) (to 110) (sell 1) 1 1)
    ∷ asked (ask_call (settings false) (to 110) (0 ∷ sell 1) 0 0)
    ∷ commit false 110 (0 ∷ sell 1) [] []
    ∷ []

expected : List (List (List ℕ))
expected =
    ((1 ∷ 1 ∷ 0 ∷ []) ∷ (2 ∷ 0 ∷ 7 ∷ 105 ∷ []) ∷ [])
    ∷ ((1 ∷ 1 ∷ 0 ∷ []) ∷ ratcheted_sell 1 ∷ [])
    ∷ ((1 ∷ 1 ∷ 0 ∷ []) ∷ ratcheted_sell 1 ∷ [])
    ∷ ((1 ∷ 1 ∷ 0 ∷ []) ∷ ratcheted_sell 3 ∷ [])
    ∷ ((0 ∷ 20 ∷ []) ∷ ratcheted_sell 1 ∷ [])
    ∷ ((0 ∷ 20 ∷ []) ∷ sell 1 ∷ [])
    ∷ ((0 ∷ 20 ∷ []) ∷ sell 1 ∷ [])
    ∷ ((0 ∷ 20 ∷ []) ∷ sell 1 ∷ [])
    ∷ ((0 ∷ 20 ∷ []) ∷ sell 1 ∷ [])
    ∷ ((0 ∷ 20 ∷ []) ∷ sell 1 ∷ [])
    ∷ ((1 ∷ 0 ∷ 0 ∷ []) ∷ sell 1 ∷ [])
    ∷ ((0 ∷ 20 ∷ []) ∷ sell 1 ∷ [])
    ∷ ((0 ∷ 14 ∷ []) ∷ [])
    ∷ ((0 ∷ 1 ∷ []) ∷ [])
    ∷ ((0 ∷ 1 ∷ []) ∷ (0 ∷ sell 1) ∷ [])
    ∷ []

examples : found ≡ expected
unfolding settings to seven moved_to some sell ratcheted_sell told asked committed commit commit_by_words found expected same_by same_list same_moved same_elected same_records same_words commit_questions commit_call elected_words moved_words before lexicographic with_index gather insert_by sort_by of_side pending_on chain indices pending_count head_or0 every next_in chain_indices header record_words data_words after_by_stop after_by_watermark with_links records_words layout cell record_word kind_of side_from entry_at slot_at slots_at free_from book_of consistent sound_stop differs all_differ vacant_indices valid are_words well_formed same_id on_tick behind beyond inconsistency_of inconsistency_number candidate tightened ratcheted trailed_at elects elected_at elected_entries counts_of pending_in segment_questions segment_call trailed leaves vacated_if settled leaving_on leaver elected_on elected_by freed changed_on mover moved_entry moved_on moved_by fill_at point sells_first falls_to and_then walk_from segment first_no decide stored stored_book
examples = refl
