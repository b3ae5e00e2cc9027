-- A line for every row of the table.
use mathlib.Core.Path.{◌≡◌, refl}
use mathlib.Core.List.{[], ◌∷◌}
use Rattle.text_lines.specs.Lines.{lines_of, onto}
use Rattle.text_words.specs.Words.{word_start, word_end, run, separates, spells, same_text, folded}
use Rattle.text_numbers.specs.Steps.{values_of}
use Rattle.text_numbers.specs.Numbers.{number_at, number_between, number_from, with_digit, count_from}
use Rattle.text_identities.specs.Identities.{identity_at, identity_between, uuid_at, uuid_between, patterned, spelled_by, spelled_from, with_character, value_of, place_in, most_of, digits, uuid_pattern, ulid_pattern}
use Rattle.text_holders.specs.Holders.{holder_at, holder_or_none, holder_between, word_at, packed}
use Rattle.sheet_words.specs.Words.{optional_at, either_at, range_at, started_at, child_at, none_text, from_text, on_text, off_text, sell_text, buy_text}
use Rattle.sheet_arguments.specs.Arguments.{argument_at}
use Rattle.sheet_signatures.specs.Signatures.{arguments_from, ended}
use Rattle.sheet_commands.specs.Grammar.{grammar}
use Rattle.sheet_commands.specs.Commands.{command_of, command_from, keyword_of, signature_of}

-- "records 4096"
row_records : command_of (114 ∷ 101 ∷ 99 ∷ 111 ∷ 114 ∷ 100 ∷ 115 ∷ 32 ∷ 52 ∷ 48 ∷ 57 ∷ 54 ∷ []) ≡ record { kind = 1; fault = 0; column = 0; values = 4096 ∷ [] }
unfolding lines_of onto word_start word_end run separates spells same_text folded values_of number_at number_between number_from with_digit count_from identity_at identity_between uuid_at uuid_between patterned spelled_by spelled_from with_character value_of place_in most_of digits uuid_pattern ulid_pattern holder_at holder_or_none holder_between word_at packed optional_at either_at range_at started_at child_at none_text from_text on_text off_text sell_text buy_text argument_at arguments_from ended grammar command_of command_from keyword_of signature_of
row_records = refl

-- "tick 5"
row_tick : command_of (116 ∷ 105 ∷ 99 ∷ 107 ∷ 32 ∷ 53 ∷ []) ≡ record { kind = 2; fault = 0; column = 0; values = 5 ∷ [] }
unfolding lines_of onto word_start word_end run separates spells same_text folded values_of number_at number_between number_from with_digit count_from identity_at identity_between uuid_at uuid_between patterned spelled_by spelled_from with_character value_of place_in most_of digits uuid_pattern ulid_pattern holder_at holder_or_none holder_between word_at packed optional_at either_at range_at started_at child_at none_text from_text on_text off_text sell_text buy_text argument_at arguments_from ended grammar command_of command_from keyword_of signature_of
row_tick = refl

-- "collar 25"
row_collar : command_of (99 ∷ 111 ∷ 108 ∷ 108 ∷ 97 ∷ 114 ∷ 32 ∷ 50 ∷ 53 ∷ []) ≡ record { kind = 3; fault = 0; column = 0; values = 1 ∷ 25 ∷ [] }
unfolding lines_of onto word_start word_end run separates spells same_text folded values_of number_at number_between number_from with_digit count_from identity_at identity_between uuid_at uuid_between patterned spelled_by spelled_from with_character value_of place_in most_of digits uuid_pattern ulid_pattern holder_at holder_or_none holder_between word_at packed optional_at either_at range_at started_at child_at none_text from_text on_text off_text sell_text buy_text argument_at arguments_from ended grammar command_of command_from keyword_of signature_of
row_collar = refl

-- "namespace 6ba7b810-9dad-11d1-80b4-00c04fd430c8"
row_namespace : command_of (110 ∷ 97 ∷ 109 ∷ 101 ∷ 115 ∷ 112 ∷ 97 ∷ 99 ∷ 101 ∷ 32 ∷ 54 ∷ 98 ∷ 97 ∷ 55 ∷ 98 ∷ 56 ∷ 49 ∷ 48 ∷ 45 ∷ 57 ∷ 100 ∷ 97 ∷ 100 ∷ 45 ∷ 49 ∷ 49 ∷ 100 ∷ 49 ∷ 45 ∷ 56 ∷ 48 ∷ 98 ∷ 52 ∷ 45 ∷ 48 ∷ 48 ∷ 99 ∷ 48 ∷ 52 ∷ 102 ∷ 100 ∷ 52 ∷ 51 ∷ 48 ∷ 99 ∷ 56 ∷ []) ≡ record { kind = 4; fault = 0; column = 0; values = 7757371264673321425 ∷ 9274038358635720904 ∷ [] }
unfolding lines_of onto word_start word_end run separates spells same_text folded values_of number_at number_between number_from with_digit count_from identity_at identity_between uuid_at uuid_between patterned spelled_by spelled_from with_character value_of place_in most_of digits uuid_pattern ulid_pattern holder_at holder_or_none holder_between word_at packed optional_at either_at range_at started_at child_at none_text from_text on_text off_text sell_text buy_text argument_at arguments_from ended grammar command_of command_from keyword_of signature_of
row_namespace = refl

-- "kill on"
row_kill : command_of (107 ∷ 105 ∷ 108 ∷ 108 ∷ 32 ∷ 111 ∷ 110 ∷ []) ≡ record { kind = 5; fault = 0; column = 0; values = 1 ∷ [] }
unfolding lines_of onto word_start word_end run separates spells same_text folded values_of number_at number_between number_from with_digit count_from identity_at identity_between uuid_at uuid_between patterned spelled_by spelled_from with_character value_of place_in most_of digits uuid_pattern ulid_pattern holder_at holder_or_none holder_between word_at packed optional_at either_at range_at started_at child_at none_text from_text on_text off_text sell_text buy_text argument_at arguments_from ended grammar command_of command_from keyword_of signature_of
row_kill = refl

-- "last none"
row_last : command_of (108 ∷ 97 ∷ 115 ∷ 116 ∷ 32 ∷ 110 ∷ 111 ∷ 110 ∷ 101 ∷ []) ≡ record { kind = 6; fault = 0; column = 0; values = 0 ∷ 0 ∷ [] }
unfolding lines_of onto word_start word_end run separates spells same_text folded values_of number_at number_between number_from with_digit count_from identity_at identity_between uuid_at uuid_between patterned spelled_by spelled_from with_character value_of place_in most_of digits uuid_pattern ulid_pattern holder_at holder_or_none holder_between word_at packed optional_at either_at range_at started_at child_at none_text from_text on_text off_text sell_text buy_text argument_at arguments_from ended grammar command_of command_from keyword_of signature_of
row_last = refl

-- "sell 7 98 100 5 10 anna"
row_sell : command_of (115 ∷ 101 ∷ 108 ∷ 108 ∷ 32 ∷ 55 ∷ 32 ∷ 57 ∷ 56 ∷ 32 ∷ 49 ∷ 48 ∷ 48 ∷ 32 ∷ 53 ∷ 32 ∷ 49 ∷ 48 ∷ 32 ∷ 97 ∷ 110 ∷ 110 ∷ 97 ∷ []) ≡ record { kind = 7; fault = 0; column = 0; values = 2 ∷ 0 ∷ 7 ∷ 98 ∷ 100 ∷ 5 ∷ 10 ∷ 7020670232008065024 ∷ 0 ∷ 0 ∷ 0 ∷ [] }
unfolding lines_of onto word_start word_end run separates spells same_text folded values_of number_at number_between number_from with_digit count_from identity_at identity_between uuid_at uuid_between patterned spelled_by spelled_from with_character value_of place_in most_of digits uuid_pattern ulid_pattern holder_at holder_or_none holder_between word_at packed optional_at either_at range_at started_at child_at none_text from_text on_text off_text sell_text buy_text argument_at arguments_from ended grammar command_of command_from keyword_of signature_of
row_sell = refl

-- "buy 01ARZ3NDEKTSV4RRFFQ69G5FAV 98 100 5 10"
row_buy : command_of (98 ∷ 117 ∷ 121 ∷ 32 ∷ 48 ∷ 49 ∷ 65 ∷ 82 ∷ 90 ∷ 51 ∷ 78 ∷ 68 ∷ 69 ∷ 75 ∷ 84 ∷ 83 ∷ 86 ∷ 52 ∷ 82 ∷ 82 ∷ 70 ∷ 70 ∷ 81 ∷ 54 ∷ 57 ∷ 71 ∷ 53 ∷ 70 ∷ 65 ∷ 86 ∷ 32 ∷ 57 ∷ 56 ∷ 32 ∷ 49 ∷ 48 ∷ 48 ∷ 32 ∷ 53 ∷ 32 ∷ 49 ∷ 48 ∷ []) ≡ record { kind = 8; fault = 0; column = 0; values = 1 ∷ 96332863914628726 ∷ 5503943799937875291 ∷ 98 ∷ 100 ∷ 5 ∷ 10 ∷ 0 ∷ 0 ∷ 0 ∷ 0 ∷ [] }
unfolding lines_of onto word_start word_end run separates spells same_text folded values_of number_at number_between number_from with_digit count_from identity_at identity_between uuid_at uuid_between patterned spelled_by spelled_from with_character value_of place_in most_of digits uuid_pattern ulid_pattern holder_at holder_or_none holder_between word_at packed optional_at either_at range_at started_at child_at none_text from_text on_text off_text sell_text buy_text argument_at arguments_from ended grammar command_of command_from keyword_of signature_of
row_buy = refl

-- "qty 6ba7b810-9dad-11d1-80b4-00c04fd430c8 3"
row_qty : command_of (113 ∷ 116 ∷ 121 ∷ 32 ∷ 54 ∷ 98 ∷ 97 ∷ 55 ∷ 98 ∷ 56 ∷ 49 ∷ 48 ∷ 45 ∷ 57 ∷ 100 ∷ 97 ∷ 100 ∷ 45 ∷ 49 ∷ 49 ∷ 100 ∷ 49 ∷ 45 ∷ 56 ∷ 48 ∷ 98 ∷ 52 ∷ 45 ∷ 48 ∷ 48 ∷ 99 ∷ 48 ∷ 52 ∷ 102 ∷ 100 ∷ 52 ∷ 51 ∷ 48 ∷ 99 ∷ 56 ∷ 32 ∷ 51 ∷ []) ≡ record { kind = 9; fault = 0; column = 0; values = 0 ∷ 7757371264673321425 ∷ 9274038358635720904 ∷ 3 ∷ [] }
unfolding lines_of onto word_start word_end run separates spells same_text folded values_of number_at number_between number_from with_digit count_from identity_at identity_between uuid_at uuid_between patterned spelled_by spelled_from with_character value_of place_in most_of digits uuid_pattern ulid_pattern holder_at holder_or_none holder_between word_at packed optional_at either_at range_at started_at child_at none_text from_text on_text off_text sell_text buy_text argument_at arguments_from ended grammar command_of command_from keyword_of signature_of
row_qty = refl

-- "price 7 99"
row-price : command_of (112 ∷ 114 ∷ 105 ∷ 99 ∷ 101 ∷ 32 ∷ 55 ∷ 32 ∷ 57 ∷ 57 ∷ []) ≡ record { kind = 10; fault = 0; column = 0; values = 2 ∷ 0 ∷ 7 ∷ 99 ∷ [] }
unfolding lines_of onto word_start word_end run separates spells same_text folded values_of number_at number_between number_from with_digit count_from identity_at identity_between uuid_at uuid_between patterned spelled_by spelled_from with_character value_of place_in most_of digits uuid_pattern ulid_pattern holder_at holder_or_none holder_between word_at packed optional_at either_at range_at started_at child_at none_text from_text on_text off_text sell_text buy_text argument_at arguments_from ended grammar command_of command_from keyword_of signature_of
row-price = refl

-- "both 7 99 3"
row_both : command_of (98 ∷ 111 ∷ 116 ∷ 104 ∷ 32 ∷ 55 ∷ 32 ∷ 57 ∷ 57 ∷ 32 ∷ 51 ∷ []) ≡ record { kind = 11; fault = 0; column = 0; values = 2 ∷ 0 ∷ 7 ∷ 99 ∷ 3 ∷ [] }
unfolding lines_of onto word_start word_end run separates spells same_text folded values_of number_at number_between number_from with_digit count_from identity_at identity_between uuid_at uuid_between patterned spelled_by spelled_from with_character value_of place_in most_of digits uuid_pattern ulid_pattern holder_at holder_or_none holder_between word_at packed optional_at either_at range_at started_at child_at none_text from_text on_text off_text sell_text buy_text argument_at arguments_from ended grammar command_of command_from keyword_of signature_of
row_both = refl

-- "replace 7 buy 99 3"
row_replace : command_of (114 ∷ 101 ∷ 112 ∷ 108 ∷ 97 ∷ 99 ∷ 101 ∷ 32 ∷ 55 ∷ 32 ∷ 98 ∷ 117 ∷ 121 ∷ 32 ∷ 57 ∷ 57 ∷ 32 ∷ 51 ∷ []) ≡ record { kind = 12; fault = 0; column = 0; values = 2 ∷ 0 ∷ 7 ∷ 0 ∷ 99 ∷ 3 ∷ [] }
unfolding lines_of onto word_start word_end run separates spells same_text folded values_of number_at number_between number_from with_digit count_from identity_at identity_between uuid_at uuid_between patterned spelled_by spelled_from with_character value_of place_in most_of digits uuid_pattern ulid_pattern holder_at holder_or_none holder_between word_at packed optional_at either_at range_at started_at child_at none_text from_text on_text off_text sell_text buy_text argument_at arguments_from ended grammar command_of command_from keyword_of signature_of
row_replace = refl

-- "cancel 7"
row-cancel : command_of (99 ∷ 97 ∷ 110 ∷ 99 ∷ 101 ∷ 108 ∷ 32 ∷ 55 ∷ []) ≡ record { kind = 13; fault = 0; column = 0; values = 2 ∷ 0 ∷ 7 ∷ [] }
unfolding lines_of onto word_start word_end run separates spells same_text folded values_of number_at number_between number_from with_digit count_from identity_at identity_between uuid_at uuid_between patterned spelled_by spelled_from with_character value_of place_in most_of digits uuid_pattern ulid_pattern holder_at holder_or_none holder_between word_at packed optional_at either_at range_at started_at child_at none_text from_text on_text off_text sell_text buy_text argument_at arguments_from ended grammar command_of command_from keyword_of signature_of
row-cancel = refl

-- "cancel-holder anna"
row-cancel_holder : command_of (99 ∷ 97 ∷ 110 ∷ 99 ∷ 101 ∷ 108 ∷ 45 ∷ 104 ∷ 111 ∷ 108 ∷ 100 ∷ 101 ∷ 114 ∷ 32 ∷ 97 ∷ 110 ∷ 110 ∷ 97 ∷ []) ≡ record { kind = 14; fault = 0; column = 0; values = 7020670232008065024 ∷ 0 ∷ 0 ∷ 0 ∷ [] }
unfolding lines_of onto word_start word_end run separates spells same_text folded values_of number_at number_between number_from with_digit count_from identity_at identity_between uuid_at uuid_between patterned spelled_by spelled_from with_character value_of place_in most_of digits uuid_pattern ulid_pattern holder_at holder_or_none holder_between word_at packed optional_at either_at range_at started_at child_at none_text from_text on_text off_text sell_text buy_text argument_at arguments_from ended grammar command_of command_from keyword_of signature_of
row-cancel_holder = refl

-- "clear"
row-clear : command_of (99 ∷ 108 ∷ 101 ∷ 97 ∷ 114 ∷ []) ≡ record { kind = 15; fault = 0; column = 0; values = [] }
unfolding lines_of onto word_start word_end run separates spells same_text folded values_of number_at number_between number_from with_digit count_from identity_at identity_between uuid_at uuid_between patterned spelled_by spelled_from with_character value_of place_in most_of digits uuid_pattern ulid_pattern holder_at holder_or_none holder_between word_at packed optional_at either_at range_at started_at child_at none_text from_text on_text off_text sell_text buy_text argument_at arguments_from ended grammar command_of command_from keyword_of signature_of
row-clear = refl

-- "prints 100 97 99"
row_prints : command_of (112 ∷ 114 ∷ 105 ∷ 110 ∷ 116 ∷ 115 ∷ 32 ∷ 49 ∷ 48 ∷ 48 ∷ 32 ∷ 57 ∷ 55 ∷ 32 ∷ 57 ∷ 57 ∷ []) ≡ record { kind = 16; fault = 0; column = 0; values = 6 ∷ 3 ∷ [] }
unfolding lines_of onto word_start word_end run separates spells same_text folded values_of number_at number_between number_from with_digit count_from identity_at identity_between uuid_at uuid_between patterned spelled_by spelled_from with_character value_of place_in most_of digits uuid_pattern ulid_pattern holder_at holder_or_none holder_between word_at packed optional_at either_at range_at started_at child_at none_text from_text on_text off_text sell_text buy_text argument_at arguments_from ended grammar command_of command_from keyword_of signature_of
row_prints = refl

-- "walk"
row-walk : command_of (119 ∷ 97 ∷ 108 ∷ 107 ∷ []) ≡ record { kind = 17; fault = 0; column = 0; values = [] }
unfolding lines_of onto word_start word_end run separates spells same_text folded values_of number_at number_between number_from with_digit count_from identity_at identity_between uuid_at uuid_between patterned spelled_by spelled_from with_character value_of place_in most_of digits uuid_pattern ulid_pattern holder_at holder_or_none holder_between word_at packed optional_at either_at range_at started_at child_at none_text from_text on_text off_text sell_text buy_text argument_at arguments_from ended grammar command_of command_from keyword_of signature_of
row-walk = refl

-- "ends"
row_ends : command_of (101 ∷ 110 ∷ 100 ∷ 115 ∷ []) ≡ record { kind = 18; fault = 0; column = 0; values = [] }
unfolding lines_of onto word_start word_end run separates spells same_text folded values_of number_at number_between number_from with_digit count_from identity_at identity_between uuid_at uuid_between patterned spelled_by spelled_from with_character value_of place_in most_of digits uuid_pattern ulid_pattern holder_at holder_or_none holder_between word_at packed optional_at either_at range_at started_at child_at none_text from_text on_text off_text sell_text buy_text argument_at arguments_from ended grammar command_of command_from keyword_of signature_of
row_ends = refl

-- "compare"
row_compare : command_of (99 ∷ 111 ∷ 109 ∷ 112 ∷ 97 ∷ 114 ∷ 101 ∷ []) ≡ record { kind = 19; fault = 0; column = 0; values = [] }
unfolding lines_of onto word_start word_end run separates spells same_text folded values_of number_at number_between number_from with_digit count_from identity_at identity_between uuid_at uuid_between patterned spelled_by spelled_from with_character value_of place_in most_of digits uuid_pattern ulid_pattern holder_at holder_or_none holder_between word_at packed optional_at either_at range_at started_at child_at none_text from_text on_text off_text sell_text buy_text argument_at arguments_from ended grammar command_of command_from keyword_of signature_of
row_compare = refl

-- "turns"
row_turns : command_of (116 ∷ 117 ∷ 114 ∷ 110 ∷ 115 ∷ []) ≡ record { kind = 20; fault = 0; column = 0; values = [] }
unfolding lines_of onto word_start word_end run separates spells same_text folded values_of number_at number_between number_from with_digit count_from identity_at identity_between uuid_at uuid_between patterned spelled_by spelled_from with_character value_of place_in most_of digits uuid_pattern ulid_pattern holder_at holder_or_none holder_between word_at packed optional_at either_at range_at started_at child_at none_text from_text on_text off_text sell_text buy_text argument_at arguments_from ended grammar command_of command_from keyword_of signature_of
row_turns = refl

-- "child from 100 95 90"
row_child : command_of (99 ∷ 104 ∷ 105 ∷ 108 ∷ 100 ∷ 32 ∷ 102 ∷ 114 ∷ 111 ∷ 109 ∷ 32 ∷ 49 ∷ 48 ∷ 48 ∷ 32 ∷ 57 ∷ 53 ∷ 32 ∷ 57 ∷ 48 ∷ []) ≡ record { kind = 21; fault = 0; column = 0; values = 1 ∷ 1 ∷ 100 ∷ 95 ∷ 90 ∷ [] }
unfolding lines_of onto word_start word_end run separates spells same_text folded values_of number_at number_between number_from with_digit count_from identity_at identity_between uuid_at uuid_between patterned spelled_by spelled_from with_character value_of place_in most_of digits uuid_pattern ulid_pattern holder_at holder_or_none holder_between word_at packed optional_at either_at range_at started_at child_at none_text from_text on_text off_text sell_text buy_text argument_at arguments_from ended grammar command_of command_from keyword_of signature_of
row_child = refl

-- "pass"
row-pass : command_of (112 ∷ 97 ∷ 115 ∷ 115 ∷ []) ≡ record { kind = 22; fault = 0; column = 0; values = [] }
unfolding lines_of onto word_start word_end run separates spells same_text folded values_of number_at number_between number_from with_digit count_from identity_at identity_between uuid_at uuid_between patterned spelled_by spelled_from with_character value_of place_in most_of digits uuid_pattern ulid_pattern holder_at holder_or_none holder_between word_at packed optional_at either_at range_at started_at child_at none_text from_text on_text off_text sell_text buy_text argument_at arguments_from ended grammar command_of command_from keyword_of signature_of
row-pass = refl

-- "ladder 95,90"
row-ladder : command_of (108 ∷ 97 ∷ 100 ∷ 100 ∷ 101 ∷ 114 ∷ 32 ∷ 57 ∷ 53 ∷ 44 ∷ 57 ∷ 48 ∷ []) ≡ record { kind = 23; fault = 0; column = 0; values = 6 ∷ 2 ∷ [] }
unfolding lines_of onto word_start word_end run separates spells same_text folded values_of number_at number_between number_from with_digit count_from identity_at identity_between uuid_at uuid_between patterned spelled_by spelled_from with_character value_of place_in most_of digits uuid_pattern ulid_pattern holder_at holder_or_none holder_between word_at packed optional_at either_at range_at started_at child_at none_text from_text on_text off_text sell_text buy_text argument_at arguments_from ended grammar command_of command_from keyword_of signature_of
row-ladder = refl

-- "list"
row_list : command_of (108 ∷ 105 ∷ 115 ∷ 116 ∷ []) ≡ record { kind = 24; fault = 0; column = 0; values = [] }
unfolding lines_of onto word_start word_end run separates spells same_text folded values_of number_at number_between number_from with_digit count_from identity_at identity_between uuid_at uuid_between patterned spelled_by spelled_from with_character value_of place_in most_of digits uuid_pattern ulid_pattern holder_at holder_or_none holder_between word_at packed optional_at either_at range_at started_at child_at none_text from_text on_text off_text sell_text buy_text argument_at arguments_from ended grammar command_of command_from keyword_of signature_of
row_list = refl

-- "holder anna"
row_holder : command_of (104 ∷ 111 ∷ 108 ∷ 100 ∷ 101 ∷ 114 ∷ 32 ∷ 97 ∷ 110 ∷ 110 ∷ 97 ∷ []) ≡ record { kind = 25; fault = 0; column = 0; values = 7020670232008065024 ∷ 0 ∷ 0 ∷ 0 ∷ [] }
unfolding lines_of onto word_start word_end run separates spells same_text folded values_of number_at number_between number_from with_digit count_from identity_at identity_between uuid_at uuid_between patterned spelled_by spelled_from with_character value_of place_in most_of digits uuid_pattern ulid_pattern holder_at holder_or_none holder_between word_at packed optional_at either_at range_at started_at child_at none_text from_text on_text off_text sell_text buy_text argument_at arguments_from ended grammar command_of command_from keyword_of signature_of
row_holder = refl

-- "totals"
row_totals : command_of (116 ∷ 111 ∷ 116 ∷ 97 ∷ 108 ∷ 115 ∷ []) ≡ record { kind = 26; fault = 0; column = 0; values = [] }
unfolding lines_of onto word_start word_end run separates spells same_text folded values_of number_at number_between number_from with_digit count_from identity_at identity_between uuid_at uuid_between patterned spelled_by spelled_from with_character value_of place_in most_of digits uuid_pattern ulid_pattern holder_at holder_or_none holder_between word_at packed optional_at either_at range_at started_at child_at none_text from_text on_text off_text sell_text buy_text argument_at arguments_from ended grammar command_of command_from keyword_of signature_of
row_totals = refl

-- "ask"
row_ask : command_of (97 ∷ 115 ∷ 107 ∷ []) ≡ record { kind = 27; fault = 0; column = 0; values = [] }
unfolding lines_of onto word_start word_end run separates spells same_text folded values_of number_at number_between number_from with_digit count_from identity_at identity_between uuid_at uuid_between patterned spelled_by spelled_from with_character value_of place_in most_of digits uuid_pattern ulid_pattern holder_at holder_or_none holder_between word_at packed optional_at either_at range_at started_at child_at none_text from_text on_text off_text sell_text buy_text argument_at arguments_from ended grammar command_of command_from keyword_of signature_of
row_ask = refl

-- "commit"
row_commit : command_of (99 ∷ 111 ∷ 109 ∷ 109 ∷ 105 ∷ 116 ∷ []) ≡ record { kind = 28; fault = 0; column = 0; values = [] }
unfolding lines_of onto word_start word_end run separates spells same_text folded values_of number_at number_between number_from with_digit count_from identity_at identity_between uuid_at uuid_between patterned spelled_by spelled_from with_character value_of place_in most_of digits uuid_pattern ulid_pattern holder_at holder_or_none holder_between word_at packed optional_at either_at range_at started_at child_at none_text from_text on_text off_text sell_text buy_text argument_at arguments_from ended grammar command_of command_from keyword_of signature_of
row_commit = refl
