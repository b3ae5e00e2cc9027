-- Examples of collect and mass cancel, in one table that the checker computes: document 02, One.
use Rattle.std.specs.Prelude.{is_none}
use Prim.Native.Nat.{ℕ}
use mathlib.Core.Path.{◌≡◌, refl}
use mathlib.Core.List.{List, [], ◌∷◌, ◌++◌, map}
use lib.ListN.{take, replicate}
use Rattle.error.specs.Answer.{Answer, refused, accepted}
use Rattle.error.specs.Questions.{first_no, decide}
use Rattle.pricelevel.specs.Holder.{holder_of, same_holder}
use Rattle.pricelevel.specs.Identity.{same_id}
use Rattle.pricelevel.specs.Tick.{on_tick}
use Rattle.pricelevel.specs.declared.Side.TheVariants.{Buy, Sell}
use Rattle.stop_terms.specs.Terms.{behind, beyond, inconsistency_of, inconsistency_number}
use Rattle.book.specs.Book.{before, lexicographic, with_index, gather, of_side, pending_on, chain, entries, indices, pending_count}
use Rattle.book.specs.Calls.{pending_in}
use Rattle.book.specs.BySequence.{pending_stop, admitted_earlier, by_sequence}
use Rattle.book.specs.Collect.{selects, selected, collect_questions, CollectOutcome, collect, vacated_each, mass_cancel}
use Rattle.book.specs.Entries.{stop_words}
use Rattle.book.specs.Lists.{head_or0, every, filter, same_list, insert_by, sort_by}
use Rattle.book.specs.Store.{stored, stored_book, vacated}
use Rattle.book.specs.Words.{next_in, chain_indices, header, record_words, records_words, layout, cell, record_word, kind_of, side_from, entry_at, slot_at, slots_at, free_from, book_of, consistent, sound_stop, differs, all_differ, vacant_indices, valid, are_words, well_formed, data_words, after_by_stop, after_by_watermark, with_links}
use Rattle.book.specs.declared.Selector.{Selector}
use Rattle.book.specs.declared.Selector.TheVariants.{ByHolder, BySide, ByPriceRange}

-- two sells, the later one in the first record
store : List ℕ
store =
    2 ∷ 2 ∷ 3 ∷ 0 ∷ 2 ∷ 2 ∷ 0 ∷ 0 ∷ 0
    ∷ 2 ∷ 0 ∷ 7 ∷ 1 ∷ 90 ∷ 100 ∷ 10 ∷ 1 ∷ 2 ∷ 0 ∷ 0 ∷ 5 ∷ 6 ∷ 7 ∷ 8
    ∷ 2 ∷ 0 ∷ 9 ∷ 1 ∷ 95 ∷ 100 ∷ 10 ∷ 1 ∷ 1 ∷ 1 ∷ 1 ∷ 5 ∷ 6 ∷ 7 ∷ 9
    ∷ []

earlier : List ℕ
earlier = 2 ∷ 0 ∷ 9 ∷ 1 ∷ 95 ∷ 100 ∷ 10 ∷ 1 ∷ 1 ∷ 5 ∷ 6 ∷ 7 ∷ 9 ∷ []

later : List ℕ
later = 2 ∷ 0 ∷ 7 ∷ 1 ∷ 90 ∷ 100 ∷ 10 ∷ 1 ∷ 2 ∷ 5 ∷ 6 ∷ 7 ∷ 8 ∷ []

-- both records are free, the one that was cancelled last at the head
left : List ℕ
left = 2 ∷ 0 ∷ 3 ∷ 0 ∷ 0 ∷ 0 ∷ 0 ∷ 0 ∷ 1 ∷ (replicate 9 0 ++ (2 ∷ replicate 20 0))

in_range : ℕ → ℕ → Selector
in_range lowest highest = ByPriceRange (record { 0 = lowest }) (record { 0 = highest })

-- refused is 0 and the number; accepted 1 and how many are listed
told : Answer ℕ → List ℕ
told (refused k) = 0 ∷ k ∷ []
told (accepted n) = 1 ∷ n ∷ []

lines : CollectOutcome → List (List ℕ)
lines o = told o.answer ∷ map stop_words o.listed

found : List (List (List ℕ))
found =
    lines (collect (BySide Sell) store 2)
    ∷ lines (collect (BySide Buy) store 2)
    ∷ lines (collect (ByHolder (holder_of 5 6 7 8)) store 2)
    ∷ lines (collect (in_range 90 95) store 2)
    ∷ lines (collect (in_range 95 95) store 3)
    ∷ lines (collect (in_range 95 90) store 2)
    ∷ lines (collect (BySide Buy) store 1)
    ∷ lines (collect (BySide Buy) (take 38 store) 1)
    ∷ lines (mass_cancel (BySide Sell) store 2)
    ∷ ((mass_cancel (BySide Sell) store 2).words ∷ [])
    ∷ ((mass_cancel (BySide Buy) store 2).words ∷ [])
    ∷ ((mass_cancel (BySide Sell) store 1).words ∷ [])
    ∷ []

expected : List (List (List ℕ))
expected =
    ((1 ∷ 2 ∷ []) ∷ earlier ∷ later ∷ [])
    ∷ ((1 ∷ 0 ∷ []) ∷ [])
    ∷ ((1 ∷ 1 ∷ []) ∷ later ∷ [])
    ∷ ((1 ∷ 2 ∷ []) ∷ earlier ∷ later ∷ [])
    ∷ ((1 ∷ 1 ∷ []) ∷ earlier ∷ [])
    ∷ ((1 ∷ 0 ∷ []) ∷ [])
    ∷ ((0 ∷ 14 ∷ []) ∷ [])
    ∷ ((0 ∷ 1 ∷ []) ∷ [])
    ∷ ((1 ∷ 2 ∷ []) ∷ earlier ∷ later ∷ [])
    ∷ (left ∷ [])
    ∷ (store ∷ [])
    ∷ (store ∷ [])
    ∷ []

examples : found ≡ expected
unfolding store earlier later left in_range told lines found expected before lexicographic with_index gather insert_by sort_by filter of_side pending_on chain entries indices pending_count head_or0 every same_list next_in chain_indices header record_words data_words after_by_stop after_by_watermark with_links records_words layout cell record_word kind_of side_from entry_at slot_at slots_at free_from book_of consistent sound_stop differs all_differ vacant_indices valid are_words well_formed same_id same_holder on_tick behind beyond inconsistency_of inconsistency_number pending_in pending_stop admitted_earlier by_sequence selects selected stop_words collect_questions collect vacated_each mass_cancel first_no decide stored stored_book vacated
examples = refl
