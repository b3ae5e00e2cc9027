-- A store's stops along a run, left, elected and drawn, in one table that the checker computes. Document 02, Two.
use Prim.Native.Nat.{ℕ}
use mathlib.Core.Path.{◌≡◌, refl}
use mathlib.Core.Bool.{Bool, true, false}
use mathlib.Core.List.{List, [], ◌∷◌, ◌++◌, map}
use Rattle.error.specs.Questions.{first_no, decide}
use Rattle.pricelevel.specs.Identity.{same_id}
use Rattle.pricelevel.specs.Price.{to_price}
use Rattle.pricelevel.specs.Tick.{on_tick}
use Rattle.pricelevel.specs.declared.Price.{Price}
use Rattle.stop_terms.specs.Terms.{behind, candidate, tightened, ratcheted, trailed_at, elects, elected_at, beyond, inconsistency_of, inconsistency_number}
use Rattle.stop_trigger.specs.Child.{child_id, id_of}
use Rattle.repricing.specs.Preview.{improved, preview}
use Rattle.repricing.specs.Previewed.{adjusted, previewed_at}
use Rattle.book.specs.Book.{before, lexicographic, with_index, gather, of_side, pending_on, chain, indices, pending_count}
use Rattle.book.specs.Calls.{WalkOutcome, elected_entry, elected_entries, counts_of, pending_in, walk_questions, walk_call}
use Rattle.book.specs.Evaluation.{trailed, leaves, vacated_if, settled, leaving_on, leaver, elected_on, elected_by, freed, changed_on, mover, moved_entry, moved_on, moved_by, fill_at, point, sells_first, falls_to, and_then, walk_from, segment, last_of, walk}
use Rattle.book.specs.Lists.{head_or0, every, same_list, insert_by, sort_by}
use Rattle.book.specs.Script.{script_prev, script_segment, execute_one, executed}
use Rattle.book.specs.Store.{stored, stored_book, named, lookup, is_pending}
use Rattle.book.specs.Words.{next_in, chain_indices, header, record_words, records_words, layout, cell, record_word, kind_of, side_from, entry_at, slot_at, slots_at, free_from, book_of, consistent, sound_stop, differs, all_differ, vacant_indices, valid, are_words, well_formed, data_words, after_by_stop, after_by_watermark, with_links}
use Rattle.book.specs.declared.Elected.{Elected}
use Rattle.book.specs.declared.Settings.{Settings}
use Rattle.drawn_stops.specs.Drawn.{Followed, pending, elected, followed, pass_prices_from, pass_prices}
use Rattle.std.specs.Prelude.{None, is_none, is_some}

-- a sell (95, 100, 10) and a buy (112, 108, 10)
store : List ℕ
store =
    2 ∷ 2 ∷ 2 ∷ 0 ∷ 1 ∷ 1 ∷ 2 ∷ 2 ∷ 0
    ∷ 2 ∷ 0 ∷ 7 ∷ 1 ∷ 95 ∷ 100 ∷ 10 ∷ 1 ∷ 0 ∷ 0 ∷ 0 ∷ 0 ∷ 0 ∷ 0 ∷ 0
    ∷ 2 ∷ 0 ∷ 9 ∷ 0 ∷ 112 ∷ 108 ∷ 10 ∷ 1 ∷ 1 ∷ 0 ∷ 0 ∷ 0 ∷ 0 ∷ 0 ∷ 0
    ∷ []

-- no collar, namespace zero
settings : Bool → Settings
settings kill = record { kill = kill; protection = None; namespace = record { high = 0; low = 0 } }

-- stop and watermark of what is drawn; behind an elected one the price
drawn_line : Followed → List ℕ
drawn_line (pending t) = t.stop.0 ∷ t.watermark.0 ∷ []
drawn_line (elected t p) = t.stop.0 ∷ t.watermark.0 ∷ p.0 ∷ []

-- identity, stop and trigger
elected_line : Elected → List ℕ
elected_line e = e.id.low ∷ e.stop.0 ∷ e.trigger.0 ∷ []

-- identity, stop and watermark of a record after a call; zeros if it is free
left_line : List ℕ → ℕ → List ℕ
left_line w i = record_word w i 2 ∷ record_word w i 4 ∷ record_word w i 5 ∷ []

-- what a panel draws of the stop of a record, from its terms on
drawn_of : Bool → ℕ → List Price → Followed
drawn_of kill i run = followed previewed_at kill (entry_at store i).terms run

-- what a walk lists, what it leaves in both records, and what is drawn of their stops
lines : Bool → List ℕ → List (List ℕ)
lines kill prices =
    let run = map to_price prices in
    let o : WalkOutcome = walk_call (settings kill) None run store 2 in
    map elected_line o.elected
    ++ (left_line o.words 1 ∷ left_line o.words 2
    ∷ drawn_line (drawn_of kill 1 run) ∷ drawn_line (drawn_of kill 2 run) ∷ [])

-- the prices of a pass from 101 to 95, which elects the sell, whose child prints 104 and then 105
prices_of_pass : List ℕ
prices_of_pass =
    map (λ p. p.0) (pass_prices (settings false) (1 ∷ 1 ∷ 95 ∷ 104 ∷ 105 ∷ [])
    (record { prev = None; first = to_price 101; last = to_price 95 }) (book_of store))

found : List (List (List ℕ))
found =
    lines false (103 ∷ 102 ∷ [])
    ∷ lines false (103 ∷ 102 ∷ 107 ∷ 101 ∷ 97 ∷ [])
    ∷ lines true (103 ∷ 102 ∷ 107 ∷ 101 ∷ 97 ∷ [])
    ∷ (prices_of_pass ∷ [])
    ∷ []

expected : List (List (List ℕ))
expected =
    -- the watermarks have parted
    ((7 ∷ 95 ∷ 103 ∷ []) ∷ (9 ∷ 112 ∷ 102 ∷ []) ∷ (95 ∷ 100 ∷ []) ∷ (112 ∷ 108 ∷ []) ∷ [])
    -- 107 and 101 tighten the stops, 97 elects the sell
    ∷ ((7 ∷ 97 ∷ 97 ∷ []) ∷ (0 ∷ 0 ∷ 0 ∷ []) ∷ (9 ∷ 107 ∷ 97 ∷ []) ∷ (97 ∷ 107 ∷ 97 ∷ []) ∷ (107 ∷ 97 ∷ []) ∷ [])
    -- the kill switch is on
    ∷ ((7 ∷ 97 ∷ 107 ∷ []) ∷ (9 ∷ 107 ∷ 97 ∷ []) ∷ (97 ∷ 107 ∷ []) ∷ (107 ∷ 97 ∷ []) ∷ [])
    ∷ ((101 ∷ 95 ∷ 104 ∷ 105 ∷ []) ∷ [])
    ∷ []

examples : found ≡ expected
unfolding store settings drawn_line elected_line left_line drawn_of lines prices_of_pass found expected before lexicographic with_index gather insert_by sort_by of_side pending_on chain indices pending_count head_or0 every same_list next_in chain_indices header record_words data_words after_by_stop after_by_watermark with_links records_words layout cell record_word kind_of side_from entry_at slot_at slots_at free_from book_of consistent sound_stop differs all_differ vacant_indices valid are_words well_formed same_id on_tick behind beyond inconsistency_of inconsistency_number candidate tightened ratcheted trailed_at elects elected_at elected_entry elected_entries counts_of pending_in walk_questions walk_call trailed leaves vacated_if settled leaving_on leaver elected_on elected_by freed changed_on mover moved_entry moved_on moved_by fill_at point sells_first falls_to and_then walk_from segment last_of walk first_no decide stored stored_book named lookup is_pending script_prev script_segment execute_one executed child_id id_of improved preview adjusted previewed_at followed pass_prices_from pass_prices
examples = refl
