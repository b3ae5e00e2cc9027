-- Examples of the ladder, in one table that the checker computes: document 02, Three.
use Rattle.std.specs.Prelude.{is_none}
use Prim.Native.Nat.{ℕ, ◌-◌, ◌^◌}
use mathlib.Core.Path.{◌≡◌, refl}
use mathlib.Core.List.{List, [], ◌∷◌, ◌++◌, map}
use lib.ListN.{take, replicate}
use Rattle.error.specs.Answer.{Answer, refused, accepted}
use Rattle.error.specs.Questions.{first_no, decide}
use Rattle.pricelevel.specs.Identity.{same_id}
use Rattle.pricelevel.specs.Price.{to_price}
use Rattle.pricelevel.specs.Tick.{on_tick}
use Rattle.stop_terms.specs.Terms.{behind, beyond, elects, elected_at, inconsistency_of, inconsistency_number}
use Rattle.book.specs.Book.{before, lexicographic, with_index, gather, of_side, pending_on, chain, entries, indices, pending_count}
use Rattle.book.specs.BySequence.{pending_stop, admitted_earlier, by_sequence}
use Rattle.book.specs.Calls.{pending_in}
use Rattle.book.specs.Ladder.{electing_from, bits_at, ladder_entry, ladder_words, ladder_questions, LadderOutcome, ladder}
use Rattle.book.specs.Lists.{head_or0, every, same_list, insert_by, sort_by}
use Rattle.book.specs.Words.{next_in, chain_indices, header, record_words, records_words, layout, cell, record_word, kind_of, side_from, entry_at, slot_at, slots_at, free_from, book_of, consistent, sound_stop, differs, all_differ, vacant_indices, valid, are_words, well_formed, data_words, after_by_stop, after_by_watermark, with_links}

-- sells at 98 and 95
sells : List ℕ
sells =
    2 ∷ 2 ∷ 2 ∷ 0 ∷ 1 ∷ 1 ∷ 0 ∷ 0 ∷ 0
    ∷ 2 ∷ 0 ∷ 7 ∷ 1 ∷ 98 ∷ 100 ∷ 10 ∷ 1 ∷ 0 ∷ 2 ∷ 2 ∷ 0 ∷ 0 ∷ 0 ∷ 0
    ∷ 2 ∷ 0 ∷ 9 ∷ 1 ∷ 95 ∷ 100 ∷ 10 ∷ 1 ∷ 1 ∷ 0 ∷ 0 ∷ 0 ∷ 0 ∷ 0 ∷ 0
    ∷ []

-- a sell at 95 and, admitted before it and in a later record, a buy at 105
both : List ℕ
both =
    2 ∷ 2 ∷ 3 ∷ 0 ∷ 1 ∷ 1 ∷ 2 ∷ 2 ∷ 0
    ∷ 2 ∷ 0 ∷ 7 ∷ 1 ∷ 95 ∷ 100 ∷ 10 ∷ 1 ∷ 2 ∷ 0 ∷ 0 ∷ 0 ∷ 0 ∷ 0 ∷ 0
    ∷ 2 ∷ 0 ∷ 9 ∷ 0 ∷ 105 ∷ 100 ∷ 10 ∷ 1 ∷ 1 ∷ 0 ∷ 0 ∷ 0 ∷ 0 ∷ 0 ∷ 0
    ∷ []

-- refused is 0 and the number; accepted 1 and how many are listed
told : Answer ℕ → List ℕ
told (refused k) = 0 ∷ k ∷ []
told (accepted n) = 1 ∷ n ∷ []

lines : LadderOutcome → List (List ℕ)
lines o = told o.answer ∷ map ladder_words o.listed

tried : List ℕ → List ℕ → ℕ → List (List ℕ)
tried prices w list = lines (ladder (map to_price prices) w list)

found : List (List (List ℕ))
found =
    tried (94 ∷ 96 ∷ 98 ∷ 99 ∷ []) sells 2
    ∷ tried (replicate 63 99 ++ (98 ∷ [])) sells 2
    ∷ tried (replicate 64 95) sells 3
    ∷ tried (99 ∷ []) sells 2
    -- the first is the lowest place, not the lowest price
    ∷ tried (99 ∷ 98 ∷ 94 ∷ 94 ∷ []) sells 2
    ∷ tried (0 ∷ 95 ∷ 96 ∷ 104 ∷ 105 ∷ (2 ^ 64 - 1) ∷ []) both 2
    -- a watermark that the price moves: the terms do not trail
    ∷ tried (110 ∷ 90 ∷ []) both 2
    ∷ tried [] (take 38 sells) 0
    ∷ tried [] sells 0
    ∷ tried (replicate 65 95) sells 0
    ∷ tried (95 ∷ []) sells 1
    ∷ []

expected : List (List (List ℕ))
expected =
    ((1 ∷ 2 ∷ []) ∷ (7 ∷ 3 ∷ 0 ∷ []) ∷ (1 ∷ 1 ∷ 0 ∷ []) ∷ [])
    ∷ ((1 ∷ 2 ∷ []) ∷ (2 ^ 63 ∷ 1 ∷ 63 ∷ []) ∷ (0 ∷ 0 ∷ 64 ∷ []) ∷ [])
    ∷ ((1 ∷ 2 ∷ []) ∷ ((2 ^ 64 - 1) ∷ 64 ∷ 0 ∷ []) ∷ ((2 ^ 64 - 1) ∷ 64 ∷ 0 ∷ []) ∷ [])
    ∷ ((1 ∷ 2 ∷ []) ∷ (0 ∷ 0 ∷ 64 ∷ []) ∷ (0 ∷ 0 ∷ 64 ∷ []) ∷ [])
    ∷ ((1 ∷ 2 ∷ []) ∷ (14 ∷ 3 ∷ 1 ∷ []) ∷ (12 ∷ 2 ∷ 2 ∷ []) ∷ [])
    ∷ ((1 ∷ 2 ∷ []) ∷ (48 ∷ 2 ∷ 4 ∷ []) ∷ (3 ∷ 2 ∷ 0 ∷ []) ∷ [])
    ∷ ((1 ∷ 2 ∷ []) ∷ (1 ∷ 1 ∷ 0 ∷ []) ∷ (2 ∷ 1 ∷ 1 ∷ []) ∷ [])
    ∷ ((0 ∷ 1 ∷ []) ∷ [])
    ∷ ((0 ∷ 19 ∷ []) ∷ [])
    ∷ ((0 ∷ 19 ∷ []) ∷ [])
    ∷ ((0 ∷ 14 ∷ []) ∷ [])
    ∷ []

examples : found ≡ expected
unfolding sells both told lines tried found expected before lexicographic with_index gather insert_by sort_by of_side pending_on chain entries indices pending_count head_or0 every same_list next_in chain_indices header record_words data_words after_by_stop after_by_watermark with_links records_words layout cell record_word kind_of side_from entry_at slot_at slots_at free_from book_of consistent sound_stop differs all_differ vacant_indices valid are_words well_formed same_id on_tick behind beyond elects elected_at inconsistency_of inconsistency_number pending_in pending_stop admitted_earlier by_sequence electing_from bits_at ladder_entry ladder_words ladder_questions ladder first_no decide
examples = refl
