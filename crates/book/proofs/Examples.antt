-- Document 01's examples about stores and runs, and limits at the top of document 02, Four, in one table that the checker
-- computes.
use Prim.Native.Nat.{ℕ, ◌-◌, ◌^◌}
use mathlib.Core.Path.{◌≡◌, refl}
use mathlib.Core.Bool.{Bool, true, false}
use mathlib.Core.List.{List, [], ◌∷◌, ◌++◌, map}
use lib.ListN.{drop, replicate}
use Rattle.error.specs.Answer.{Answer, refused, accepted}
use Rattle.pricelevel.specs.Holder.{holder_of}
use Rattle.pricelevel.specs.Identity.{kind_number, same_id}
use Rattle.pricelevel.specs.Side.{side_number}
use Rattle.pricelevel.specs.Tick.{on_tick}
use Rattle.pricelevel.specs.TwoWords.{two_words}
use Rattle.pricelevel.specs.declared.Holder.{Holder}
use Rattle.pricelevel.specs.declared.Id.{Id}
use Rattle.pricelevel.specs.declared.IdKind.TheVariants as kind
use Rattle.pricelevel.specs.declared.Price.{Price}
use Rattle.pricelevel.specs.declared.Seq.{Seq}
use Rattle.pricelevel.specs.declared.Side.{Side}
use Rattle.pricelevel.specs.declared.Side.TheVariants.{Sell}
use Rattle.stop_protection.specs.Collar.{limit_for, limit_price, limit_under, limit_present, limit_high, limit_low, limit_words}
use Rattle.stop_terms.specs.Terms.{behind, candidate, tightened, ratcheted, trailed_at, elects, elected_at, beyond, inconsistency_of, inconsistency_number}
use Rattle.stop_terms.specs.declared.StopTerms.{StopTerms}
use Rattle.book.specs.Book.{before, lexicographic, with_index, gather, of_side, pending_on, chain, indices, pending_count}
use Rattle.book.specs.Calls.{Settings, Counts, SegmentOutcome, WalkOutcome, elected_entry, elected_entries, counts_of, pending_in, segment_questions, segment_call, walk_questions, walk_call}
use Rattle.book.specs.Evaluation.{trailed, leaves, vacated_if, settled, leaving_on, leaver, elected_on, elected_by, freed, changed_on, mover, moved_entry, moved_on, moved_by, fill_at, point, sells_first, falls_to, and_then, walk_from, segment, last_of, walk}
use Rattle.book.specs.Lists.{head_or0, rising, every, same_list, insert_by, sort_by}
use Rattle.book.specs.Path.{closed}
use Rattle.error.specs.Questions.{first_no, decide}
use Rattle.book.specs.StepCall.{step_questions, step_call, both_answers, step_and, steps_along}
use Rattle.book.specs.Store.{PathOutcome, stored, stored_book, empty_book, lay_out, named, lookup, is_pending, within_watermark, not_triggered, admission_questions, admitted, new_entry, path_after_admission, admit}
use Rattle.book.specs.TurningPoints.{turns_at, turns_from, turning_points}
use Rattle.book.specs.Words.{next_in, chain_indices, header, record_words, records_words, layout, cell, record_word, kind_of, side_from, entry_at, slot_at, slots_at, free_from, book_of, consistent, sound_stop, differs, all_differ, vacant_indices, valid, are_words, well_formed, data_words, after_by_stop, after_by_watermark, with_links}
use Rattle.book.specs.declared.Elected.{Elected}
use Rattle.book.specs.declared.Moved.{Moved}
use Rattle.book.specs.declared.PrintPath.{PrintPath}
use Rattle.std.specs.Prelude.{None, Option, Some, is_none, is_some}

------------------------------------------------------------------------
-- What is asked

price : ℕ → Price
price n = record { 0 = n }

sequential : ℕ → Id
sequential n = record { kind = kind.Sequential; high = 0; low = n }

terms : Side → ℕ → ℕ → ℕ → StopTerms
terms side stop watermark trail = record { side = side; stop = price stop; watermark = price watermark; trail = trail }

-- no collar, kill switch off, namespace zero
plain : Settings
plain = record { kill = false; protection = None; namespace = record { high = 0; low = 0 } }

-- the same with a collar of 5
collared : Settings
collared = record {
  kill = false;
  protection = Some (record { collar = 5 });
  namespace = record { high = 0; low = 0 };
}

closed_path : PrintPath
closed_path = record { «open» = false; has_prev = false; prev = price 0; first = price 0 }

admit_for : Holder → List ℕ → Option Price → ℕ → StopTerms → PathOutcome Seq
admit_for holder w trade id t = admit false trade (sequential id) t (record { 0 = 1 }) holder w closed_path

admit_into : List ℕ → Option Price → ℕ → StopTerms → PathOutcome Seq
admit_into = admit_for (holder_of 0 0 0 0)

segment_over : List ℕ → Option Price → ℕ → ℕ → SegmentOutcome
segment_over w prev first last = segment_call plain (record { prev = prev; first = price first; last = price last }) w 4 8

walk_over : List ℕ → List ℕ → WalkOutcome
walk_over w l = walk_call plain None (map price l) w 4

-- the steps of a run, and a step
steps_over : List ℕ → Bool → Option Price → List ℕ → SegmentOutcome
steps_over w falls prev l = steps_along plain falls prev (map price l) w 4 4

step_to : List ℕ → ℕ → ℕ → SegmentOutcome
step_to w elected moved = step_call plain true None (price 100) w elected moved

------------------------------------------------------------------------
-- Answers as numbers: refused is 0 and the number; accepted 1 and the values

told_seq : Answer Seq → List ℕ
told_seq (refused k) = 0 ∷ k ∷ []
told_seq (accepted s) = 1 ∷ s.0 ∷ []

told_answer : Answer Counts → List ℕ
told_answer (refused k) = 0 ∷ k ∷ []
told_answer (accepted c) = 1 ∷ c.moves ∷ c.elected ∷ []

-- kind, high, low, side, stop, quantity, sequence, trigger, as the program forecast prints an elected entry
line : Elected → List ℕ
line e =
    kind_number e.id.kind ∷ e.id.high ∷ e.id.low ∷ side_number e.side ∷ e.stop.0 ∷ e.quantity.0
    ∷ e.seq.0 ∷ e.trigger.0 ∷ []

-- limit present, high, low
limit_line : Elected → List ℕ
limit_line e = limit_words e.limit

moved_line : Moved → List ℕ
moved_line m = m.id.low ∷ m.stop.0 ∷ []

segment_lines : SegmentOutcome → List (List ℕ)
segment_lines o = told_answer o.answer ∷ o.words ∷ (map line o.elected ++ map moved_line o.moved)

walk_lines : WalkOutcome → List (List ℕ)
walk_lines o = told_answer o.answer ∷ o.words ∷ map line o.elected

admission_lines : PathOutcome Seq → List (List ℕ)
admission_lines o = told_seq o.answer ∷ o.words ∷ []

------------------------------------------------------------------------
-- Stores

-- a layout of two records leaves the word behind it
laid_out : List ℕ
laid_out = (lay_out 2 0 (replicate 40 5)).words

-- two sells, as the program forecast reads them
forecast_store : List ℕ
forecast_store =
    2 ∷ 2 ∷ 2 ∷ 0 ∷ 1 ∷ 1 ∷ 0 ∷ 0 ∷ 0
    ∷ 2 ∷ 0 ∷ 7 ∷ 1 ∷ 98 ∷ 100 ∷ 10 ∷ 1 ∷ 0 ∷ 2 ∷ 2 ∷ 0 ∷ 0 ∷ 0 ∷ 0
    ∷ 2 ∷ 0 ∷ 9 ∷ 1 ∷ 95 ∷ 100 ∷ 10 ∷ 1 ∷ 1 ∷ 0 ∷ 0 ∷ 0 ∷ 0 ∷ 0 ∷ 0
    ∷ []

-- a sell (95, 100, 5)
turning_store : List ℕ
turning_store =
    1 ∷ 1 ∷ 1 ∷ 0 ∷ 1 ∷ 1 ∷ 0 ∷ 0 ∷ 0
    ∷ 2 ∷ 0 ∷ 7 ∷ 1 ∷ 95 ∷ 100 ∷ 5 ∷ 1 ∷ 0 ∷ 0 ∷ 0 ∷ 0 ∷ 0 ∷ 0 ∷ 0
    ∷ []

-- its turning points are 100, 110, 100
longer_run : List Price
longer_run = map price (100 ∷ 104 ∷ 110 ∷ 110 ∷ 107 ∷ 104 ∷ 100 ∷ [])

-- a sell and a buy that a print at 100 elects
both_store : List ℕ
both_store =
    2 ∷ 2 ∷ 2 ∷ 0 ∷ 1 ∷ 1 ∷ 2 ∷ 2 ∷ 0
    ∷ 2 ∷ 0 ∷ 7 ∷ 1 ∷ 100 ∷ 100 ∷ 10 ∷ 1 ∷ 0 ∷ 0 ∷ 0 ∷ 0 ∷ 0 ∷ 0 ∷ 0
    ∷ 2 ∷ 0 ∷ 9 ∷ 0 ∷ 100 ∷ 100 ∷ 10 ∷ 1 ∷ 1 ∷ 0 ∷ 0 ∷ 0 ∷ 0 ∷ 0 ∷ 0
    ∷ []

-- the same with a trail of 5
tied_store : List ℕ
tied_store =
    2 ∷ 2 ∷ 2 ∷ 0 ∷ 1 ∷ 1 ∷ 2 ∷ 2 ∷ 0
    ∷ 2 ∷ 0 ∷ 7 ∷ 1 ∷ 100 ∷ 100 ∷ 5 ∷ 1 ∷ 0 ∷ 0 ∷ 0 ∷ 0 ∷ 0 ∷ 0 ∷ 0
    ∷ 2 ∷ 0 ∷ 9 ∷ 0 ∷ 100 ∷ 100 ∷ 5 ∷ 1 ∷ 1 ∷ 0 ∷ 0 ∷ 0 ∷ 0 ∷ 0 ∷ 0
    ∷ []

-- two sells with equal stops, two buys with equal watermarks: ties by sequence ascending, and in the last descending
ties_store : List ℕ
ties_store =
    4 ∷ 4 ∷ 4 ∷ 0 ∷ 1 ∷ 1 ∷ 3 ∷ 4 ∷ 0
    ∷ 2 ∷ 0 ∷ 1 ∷ 1 ∷ 90 ∷ 100 ∷ 10 ∷ 1 ∷ 0 ∷ 2 ∷ 2 ∷ 0 ∷ 0 ∷ 0 ∷ 0
    ∷ 2 ∷ 0 ∷ 2 ∷ 1 ∷ 90 ∷ 100 ∷ 10 ∷ 1 ∷ 1 ∷ 0 ∷ 0 ∷ 0 ∷ 0 ∷ 0 ∷ 0
    ∷ 2 ∷ 0 ∷ 3 ∷ 0 ∷ 110 ∷ 100 ∷ 10 ∷ 1 ∷ 2 ∷ 4 ∷ 0 ∷ 0 ∷ 0 ∷ 0 ∷ 0
    ∷ 2 ∷ 0 ∷ 4 ∷ 0 ∷ 110 ∷ 100 ∷ 10 ∷ 1 ∷ 3 ∷ 0 ∷ 3 ∷ 0 ∷ 0 ∷ 0 ∷ 0
    ∷ []

-- a buy (2^64 − 2, 2^64 − 10, 8)
top_store : List ℕ
top_store =
    1 ∷ 1 ∷ 1 ∷ 0 ∷ 0 ∷ 0 ∷ 1 ∷ 1 ∷ 0
    ∷ 2 ∷ 0 ∷ 7 ∷ 0 ∷ (2 ^ 64 - 2) ∷ (2 ^ 64 - 10) ∷ 8 ∷ 1 ∷ 0 ∷ 0 ∷ 0 ∷ 0 ∷ 0 ∷ 0 ∷ 0
    ∷ []

-- a sell (3, 9, 6)
low_store : List ℕ
low_store =
    1 ∷ 1 ∷ 1 ∷ 0 ∷ 1 ∷ 1 ∷ 0 ∷ 0 ∷ 0
    ∷ 2 ∷ 0 ∷ 7 ∷ 1 ∷ 3 ∷ 9 ∷ 6 ∷ 1 ∷ 0 ∷ 0 ∷ 0 ∷ 0 ∷ 0 ∷ 0 ∷ 0
    ∷ []

top_run : List Price
top_run = price (2 ^ 64 - 9) ∷ price (2 ^ 64 - 5) ∷ price (2 ^ 64 - 2) ∷ []

------------------------------------------------------------------------
-- The table

-- both records are free, the one that left last at the head
forecast_left : List ℕ
forecast_left = 2 ∷ 0 ∷ 2 ∷ 0 ∷ 0 ∷ 0 ∷ 0 ∷ 0 ∷ 2 ∷ (replicate 24 0 ++ (1 ∷ replicate 5 0))

turning_left : List ℕ
turning_left = 1 ∷ 0 ∷ 1 ∷ 0 ∷ 0 ∷ 0 ∷ 0 ∷ 0 ∷ 1 ∷ replicate 15 0

sell_line : List ℕ
sell_line = 2 ∷ 0 ∷ 7 ∷ 1 ∷ 100 ∷ 1 ∷ 0 ∷ 100 ∷ []

buy_line : List ℕ
buy_line = 2 ∷ 0 ∷ 9 ∷ 0 ∷ 100 ∷ 1 ∷ 1 ∷ 100 ∷ []

record Example : Type 0 where
  found : List (List ℕ)
  expected : List (List ℕ)

example : List (List ℕ) → List (List ℕ) → Example
example found expected = record { found = found; expected = expected }

table : List Example
table =
    example (laid_out ∷ [])
    ((2 ∷ 0 ∷ 0 ∷ 0 ∷ 0 ∷ 0 ∷ 0 ∷ 0 ∷ 1 ∷ (replicate 9 0 ++ (2 ∷ replicate 20 0 ++ (5 ∷ [])))) ∷ [])
    ∷ example
    (admission_lines (admit_into (admit_into laid_out None 7 (terms Sell 98 100 10)).words None 9
    (terms Sell 95 100 10)))
    ((1 ∷ 1 ∷ []) ∷ (forecast_store ++ (5 ∷ [])) ∷ [])
    ∷ example (drop 24 (admit_for (holder_of 1 2 3 4) (admit_into laid_out None 7 (terms Sell 98 100 10)).words None 9
    (terms Sell 95 100 10)).words ∷ [])
    ((2 ∷ 0 ∷ 9 ∷ 1 ∷ 95 ∷ 100 ∷ 10 ∷ 1 ∷ 1 ∷ 0 ∷ 0 ∷ 1 ∷ 2 ∷ 3 ∷ 4 ∷ 5 ∷ []) ∷ [])
    ∷ example (admission_lines (admit_into forecast_store None 11 (terms Sell 90 100 10)))
    ((0 ∷ 10 ∷ []) ∷ forecast_store ∷ [])
    ∷ example (admission_lines (admit_into forecast_store (Some (price 90)) 9 (terms Sell 90 100 10)))
    ((0 ∷ 7 ∷ []) ∷ forecast_store ∷ [])
    ∷ example (admission_lines (admit_into forecast_store None 9 (terms Sell 90 100 10)))
    ((0 ∷ 8 ∷ []) ∷ forecast_store ∷ [])
    ∷ example (walk_lines (walk_over forecast_store (100 ∷ 97 ∷ 94 ∷ [])))
    ((1 ∷ 0 ∷ 2 ∷ []) ∷ forecast_left ∷ (2 ∷ 0 ∷ 7 ∷ 1 ∷ 98 ∷ 1 ∷ 0 ∷ 97 ∷ []) ∷ (2 ∷ 0 ∷ 9 ∷ 1 ∷ 95 ∷ 1 ∷ 1 ∷ 94 ∷ [])
    ∷ [])
    ∷ example (segment_lines (segment_over forecast_store None 100 94))
    ((1 ∷ 0 ∷ 2 ∷ []) ∷ forecast_left
    ∷ (2 ∷ 0 ∷ 7 ∷ 1 ∷ 98 ∷ 1 ∷ 0 ∷ 94 ∷ []) ∷ (2 ∷ 0 ∷ 9 ∷ 1 ∷ 95 ∷ 1 ∷ 1 ∷ 94 ∷ []) ∷ [])
    ∷ example (walk_lines (walk_over turning_store (100 ∷ 110 ∷ 100 ∷ [])))
    ((1 ∷ 1 ∷ 1 ∷ []) ∷ turning_left ∷ (2 ∷ 0 ∷ 7 ∷ 1 ∷ 105 ∷ 1 ∷ 0 ∷ 100 ∷ []) ∷ [])
    ∷ example (segment_lines (segment_over turning_store None 100 100))
    ((1 ∷ 0 ∷ 0 ∷ []) ∷ turning_store ∷ [])
    -- a run and its turning points: two moves and a trigger of 104, one move and a trigger of 100
    ∷ example (walk_lines (walk_call plain None longer_run turning_store 1))
    ((1 ∷ 2 ∷ 1 ∷ []) ∷ turning_left ∷ (2 ∷ 0 ∷ 7 ∷ 1 ∷ 105 ∷ 1 ∷ 0 ∷ 104 ∷ []) ∷ [])
    ∷ example (walk_lines (walk_call plain None (turning_points longer_run) turning_store 1))
    ((1 ∷ 1 ∷ 1 ∷ []) ∷ turning_left ∷ (2 ∷ 0 ∷ 7 ∷ 1 ∷ 105 ∷ 1 ∷ 0 ∷ 100 ∷ []) ∷ [])
    ∷ example (map line (segment_over both_store None 100 101).elected) (buy_line ∷ sell_line ∷ [])
    ∷ example (map line (segment_over both_store None 100 100).elected) (sell_line ∷ buy_line ∷ [])
    ∷ example (map line (segment_over both_store (Some (price 101)) 100 101).elected) (sell_line ∷ buy_line ∷ [])
    ∷ example (map line (segment_over both_store (Some (price 100)) 100 101).elected) (buy_line ∷ sell_line ∷ [])
    -- a run that rises from 100: its walk and its steps elect the buy first, a segment of its first price the sell
    ∷ example (map line (walk_over tied_store (100 ∷ 101 ∷ [])).elected) (buy_line ∷ sell_line ∷ [])
    ∷ example (map line (steps_over tied_store false None (100 ∷ 101 ∷ [])).elected) (buy_line ∷ sell_line ∷ [])
    ∷ example (map line (segment_over tied_store None 100 100).elected) (sell_line ∷ buy_line ∷ [])
    -- one that falls, and two whose first price is arrived from another
    ∷ example (map line (steps_over tied_store true None (100 ∷ 99 ∷ [])).elected) (sell_line ∷ buy_line ∷ [])
    ∷ example (map line (steps_over tied_store false (Some (price 101)) (100 ∷ 101 ∷ [])).elected) (sell_line ∷ buy_line ∷ [])
    ∷ example (map line (steps_over tied_store true (Some (price 99)) (100 ∷ 99 ∷ [])).elected) (buy_line ∷ sell_line ∷ [])
    -- the steps of a run that turns: what its walk answers, leaves and lists, and the moves
    ∷ example (segment_lines (steps_over turning_store true None (100 ∷ 104 ∷ 110 ∷ 110 ∷ 107 ∷ 104 ∷ 100 ∷ [])))
    ((1 ∷ 2 ∷ 1 ∷ []) ∷ turning_left ∷ (2 ∷ 0 ∷ 7 ∷ 1 ∷ 105 ∷ 1 ∷ 0 ∷ 104 ∷ []) ∷ (7 ∷ 99 ∷ []) ∷ (7 ∷ 105 ∷ []) ∷ [])
    -- a list too short, either, and then words that are no store
    ∷ example (segment_lines (step_to both_store 1 2)) ((0 ∷ 14 ∷ []) ∷ both_store ∷ [])
    ∷ example (segment_lines (step_to both_store 2 1)) ((0 ∷ 14 ∷ []) ∷ both_store ∷ [])
    ∷ example (segment_lines (step_to (0 ∷ both_store) 0 0)) ((0 ∷ 1 ∷ []) ∷ (0 ∷ both_store) ∷ [])
    ∷ example (map line (walk_over ties_store (90 ∷ [])).elected)
    ((2 ∷ 0 ∷ 1 ∷ 1 ∷ 90 ∷ 1 ∷ 0 ∷ 90 ∷ []) ∷ (2 ∷ 0 ∷ 2 ∷ 1 ∷ 90 ∷ 1 ∷ 1 ∷ 90 ∷ []) ∷ [])
    ∷ example (map moved_line (segment_over ties_store None 95 95).moved) ((4 ∷ 105 ∷ []) ∷ (3 ∷ 105 ∷ []) ∷ [])
    ∷ example (map limit_line (segment_call collared (record {
      prev = None;
      first = price (2 ^ 64 - 9);
      last = price (2 ^ 64 - 2);
    }) top_store 1 2).elected) ((1 ∷ 1 ∷ 3 ∷ []) ∷ [])
    ∷ example (map limit_line (walk_call collared None top_run top_store 1).elected) ((1 ∷ 1 ∷ 3 ∷ []) ∷ [])
    ∷ example (map limit_line (walk_call collared None (price 4 ∷ price 3 ∷ []) low_store 1).elected) ((1 ∷ 0 ∷ 0 ∷ []) ∷ [])
    ∷ []

found : List (List (List ℕ))
found = map (λ e. e.found) table

expected : List (List (List ℕ))
expected = map (λ e. e.expected) table

examples : found ≡ expected
unfolding price sequential terms plain collared closed_path admit_for admit_into segment_over walk_over steps_over step_to step_questions step_call both_answers step_and steps_along tied_store told_seq told_answer line limit_line moved_line segment_lines walk_lines admission_lines laid_out forecast_store turning_store both_store ties_store top_store low_store top_run longer_run forecast_left turning_left turns_at turns_from turning_points sell_line buy_line example table found expected before lexicographic with_index gather insert_by sort_by of_side pending_on chain indices pending_count head_or0 rising every same_list next_in chain_indices header record_words data_words after_by_stop after_by_watermark with_links records_words layout cell record_word kind_of side_from entry_at slot_at slots_at free_from book_of consistent sound_stop differs all_differ vacant_indices valid are_words well_formed same_id on_tick behind beyond inconsistency_of inconsistency_number candidate tightened ratcheted trailed_at elects elected_at elected_entry limit_under limit_for limit_price two_words limit_present limit_high limit_low elected_entries counts_of pending_in segment_questions segment_call walk_questions walk_call trailed leaves vacated_if settled leaving_on leaver elected_on elected_by freed changed_on mover moved_entry moved_on moved_by fill_at point sells_first falls_to and_then walk_from segment last_of walk first_no decide stored stored_book empty_book lay_out named lookup is_pending within_watermark not_triggered admission_questions admitted new_entry path_after_admission admit closed
examples = refl
