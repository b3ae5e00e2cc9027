-- Every fault with its column; lines without words; a pasted row, and upper case.
use mathlib.Core.Path.{◌≡◌, refl}
use mathlib.Core.List.{[], ◌∷◌}
use Rattle.text_lines.specs.Lines.{lines_of, onto}
use Rattle.text_words.specs.Words.{word_start, word_end, run, separates, spells, same_text, folded}
use Rattle.text_numbers.specs.Steps.{values_of}
use Rattle.text_numbers.specs.Numbers.{number_at, number_between, number_from, with_digit, count_from}
use Rattle.text_identities.specs.Identities.{identity_at, identity_between, uuid_at, uuid_between, patterned, spelled_by, spelled_from, with_character, value_of, place_in, most_of, digits, uuid_pattern, ulid_pattern}
use Rattle.text_holders.specs.Holders.{holder_at, holder_or_none, holder_between, word_at, packed}
use Rattle.sheet_words.specs.Words.{optional_at, either_at, range_at, started_at, child_at, none_text, from_text, on_text, off_text, sell_text, buy_text}
use Rattle.sheet_arguments.specs.Arguments.{argument_at}
use Rattle.sheet_signatures.specs.Signatures.{arguments_from, ended}
use Rattle.sheet_commands.specs.Grammar.{grammar}
use Rattle.sheet_commands.specs.Commands.{command_of, command_from, keyword_of, signature_of}

-- "qty 7"
missing_word : command_of (113 ∷ 116 ∷ 121 ∷ 32 ∷ 55 ∷ []) ≡ record { kind = 9; fault = 1; column = 6; values = 2 ∷ 0 ∷ 7 ∷ [] }
unfolding lines_of onto word_start word_end run separates spells same_text folded values_of number_at number_between number_from with_digit count_from identity_at identity_between uuid_at uuid_between patterned spelled_by spelled_from with_character value_of place_in most_of digits uuid_pattern ulid_pattern holder_at holder_or_none holder_between word_at packed optional_at either_at range_at started_at child_at none_text from_text on_text off_text sell_text buy_text argument_at arguments_from ended grammar command_of command_from keyword_of signature_of
missing_word = refl

-- " tick x5"
not_a-number : command_of (32 ∷ 116 ∷ 105 ∷ 99 ∷ 107 ∷ 32 ∷ 120 ∷ 53 ∷ []) ≡ record { kind = 2; fault = 2; column = 7; values = [] }
unfolding lines_of onto word_start word_end run separates spells same_text folded values_of number_at number_between number_from with_digit count_from identity_at identity_between uuid_at uuid_between patterned spelled_by spelled_from with_character value_of place_in most_of digits uuid_pattern ulid_pattern holder_at holder_or_none holder_between word_at packed optional_at either_at range_at started_at child_at none_text from_text on_text off_text sell_text buy_text argument_at arguments_from ended grammar command_of command_from keyword_of signature_of
not_a-number = refl

-- "price 7 18446744073709551616"
too_large_lem : command_of (112 ∷ 114 ∷ 105 ∷ 99 ∷ 101 ∷ 32 ∷ 55 ∷ 32 ∷ 49 ∷ 56 ∷ 52 ∷ 52 ∷ 54 ∷ 55 ∷ 52 ∷ 52 ∷ 48 ∷ 55 ∷ 51 ∷ 55 ∷ 48 ∷ 57 ∷ 53 ∷ 53 ∷ 49 ∷ 54 ∷ 49 ∷ 54 ∷ []) ≡ record { kind = 10; fault = 3; column = 9; values = 2 ∷ 0 ∷ 7 ∷ [] }
unfolding lines_of onto word_start word_end run separates spells same_text folded values_of number_at number_between number_from with_digit count_from identity_at identity_between uuid_at uuid_between patterned spelled_by spelled_from with_character value_of place_in most_of digits uuid_pattern ulid_pattern holder_at holder_or_none holder_between word_at packed optional_at either_at range_at started_at child_at none_text from_text on_text off_text sell_text buy_text argument_at arguments_from ended grammar command_of command_from keyword_of signature_of
too_large_lem = refl

-- "namespace 7"
not_a_uuid : command_of (110 ∷ 97 ∷ 109 ∷ 101 ∷ 115 ∷ 112 ∷ 97 ∷ 99 ∷ 101 ∷ 32 ∷ 55 ∷ []) ≡ record { kind = 4; fault = 4; column = 11; values = [] }
unfolding lines_of onto word_start word_end run separates spells same_text folded values_of number_at number_between number_from with_digit count_from identity_at identity_between uuid_at uuid_between patterned spelled_by spelled_from with_character value_of place_in most_of digits uuid_pattern ulid_pattern holder_at holder_or_none holder_between word_at packed optional_at either_at range_at started_at child_at none_text from_text on_text off_text sell_text buy_text argument_at arguments_from ended grammar command_of command_from keyword_of signature_of
not_a_uuid = refl

-- "cancel 01ARZ3NDEKTSV4RRFFQ69G5FAI"
not_a_ulid : command_of (99 ∷ 97 ∷ 110 ∷ 99 ∷ 101 ∷ 108 ∷ 32 ∷ 48 ∷ 49 ∷ 65 ∷ 82 ∷ 90 ∷ 51 ∷ 78 ∷ 68 ∷ 69 ∷ 75 ∷ 84 ∷ 83 ∷ 86 ∷ 52 ∷ 82 ∷ 82 ∷ 70 ∷ 70 ∷ 81 ∷ 54 ∷ 57 ∷ 71 ∷ 53 ∷ 70 ∷ 65 ∷ 73 ∷ []) ≡ record { kind = 13; fault = 5; column = 8; values = [] }
unfolding lines_of onto word_start word_end run separates spells same_text folded values_of number_at number_between number_from with_digit count_from identity_at identity_between uuid_at uuid_between patterned spelled_by spelled_from with_character value_of place_in most_of digits uuid_pattern ulid_pattern holder_at holder_or_none holder_between word_at packed optional_at either_at range_at started_at child_at none_text from_text on_text off_text sell_text buy_text argument_at arguments_from ended grammar command_of command_from keyword_of signature_of
not_a_ulid = refl

-- "kill none"
neither_on_nor_off : command_of (107 ∷ 105 ∷ 108 ∷ 108 ∷ 32 ∷ 110 ∷ 111 ∷ 110 ∷ 101 ∷ []) ≡ record { kind = 5; fault = 6; column = 6; values = [] }
unfolding lines_of onto word_start word_end run separates spells same_text folded values_of number_at number_between number_from with_digit count_from identity_at identity_between uuid_at uuid_between patterned spelled_by spelled_from with_character value_of place_in most_of digits uuid_pattern ulid_pattern holder_at holder_or_none holder_between word_at packed optional_at either_at range_at started_at child_at none_text from_text on_text off_text sell_text buy_text argument_at arguments_from ended grammar command_of command_from keyword_of signature_of
neither_on_nor_off = refl

-- "replace 7 sold 99 3"
neither_sell_nor_buy : command_of (114 ∷ 101 ∷ 112 ∷ 108 ∷ 97 ∷ 99 ∷ 101 ∷ 32 ∷ 55 ∷ 32 ∷ 115 ∷ 111 ∷ 108 ∷ 100 ∷ 32 ∷ 57 ∷ 57 ∷ 32 ∷ 51 ∷ []) ≡ record { kind = 12; fault = 7; column = 11; values = 2 ∷ 0 ∷ 7 ∷ [] }
unfolding lines_of onto word_start word_end run separates spells same_text folded values_of number_at number_between number_from with_digit count_from identity_at identity_between uuid_at uuid_between patterned spelled_by spelled_from with_character value_of place_in most_of digits uuid_pattern ulid_pattern holder_at holder_or_none holder_between word_at packed optional_at either_at range_at started_at child_at none_text from_text on_text off_text sell_text buy_text argument_at arguments_from ended grammar command_of command_from keyword_of signature_of
neither_sell_nor_buy = refl

-- "holder aaaaaaaaaaaaaaaaaaaaaaaaaaaaaaaaa"
holder_too_long : command_of (104 ∷ 111 ∷ 108 ∷ 100 ∷ 101 ∷ 114 ∷ 32 ∷ 97 ∷ 97 ∷ 97 ∷ 97 ∷ 97 ∷ 97 ∷ 97 ∷ 97 ∷ 97 ∷ 97 ∷ 97 ∷ 97 ∷ 97 ∷ 97 ∷ 97 ∷ 97 ∷ 97 ∷ 97 ∷ 97 ∷ 97 ∷ 97 ∷ 97 ∷ 97 ∷ 97 ∷ 97 ∷ 97 ∷ 97 ∷ 97 ∷ 97 ∷ 97 ∷ 97 ∷ 97 ∷ 97 ∷ []) ≡ record { kind = 25; fault = 8; column = 8; values = [] }
unfolding lines_of onto word_start word_end run separates spells same_text folded values_of number_at number_between number_from with_digit count_from identity_at identity_between uuid_at uuid_between patterned spelled_by spelled_from with_character value_of place_in most_of digits uuid_pattern ulid_pattern holder_at holder_or_none holder_between word_at packed optional_at either_at range_at started_at child_at none_text from_text on_text off_text sell_text buy_text argument_at arguments_from ended grammar command_of command_from keyword_of signature_of
holder_too_long = refl

-- "both 7 99 3 4"
word_too_many : command_of (98 ∷ 111 ∷ 116 ∷ 104 ∷ 32 ∷ 55 ∷ 32 ∷ 57 ∷ 57 ∷ 32 ∷ 51 ∷ 32 ∷ 52 ∷ []) ≡ record { kind = 11; fault = 9; column = 13; values = 2 ∷ 0 ∷ 7 ∷ 99 ∷ 3 ∷ [] }
unfolding lines_of onto word_start word_end run separates spells same_text folded values_of number_at number_between number_from with_digit count_from identity_at identity_between uuid_at uuid_between patterned spelled_by spelled_from with_character value_of place_in most_of digits uuid_pattern ulid_pattern holder_at holder_or_none holder_between word_at packed optional_at either_at range_at started_at child_at none_text from_text on_text off_text sell_text buy_text argument_at arguments_from ended grammar command_of command_from keyword_of signature_of
word_too_many = refl

-- " wal 1"
no_such-command : command_of (32 ∷ 119 ∷ 97 ∷ 108 ∷ 32 ∷ 49 ∷ []) ≡ record { kind = 0; fault = 10; column = 2; values = [] }
unfolding lines_of onto word_start word_end run separates spells same_text folded values_of number_at number_between number_from with_digit count_from identity_at identity_between uuid_at uuid_between patterned spelled_by spelled_from with_character value_of place_in most_of digits uuid_pattern ulid_pattern holder_at holder_or_none holder_between word_at packed optional_at either_at range_at started_at child_at none_text from_text on_text off_text sell_text buy_text argument_at arguments_from ended grammar command_of command_from keyword_of signature_of
no_such-command = refl

-- "prints 100 97 x 99"
number_of_a-run : command_of (112 ∷ 114 ∷ 105 ∷ 110 ∷ 116 ∷ 115 ∷ 32 ∷ 49 ∷ 48 ∷ 48 ∷ 32 ∷ 57 ∷ 55 ∷ 32 ∷ 120 ∷ 32 ∷ 57 ∷ 57 ∷ []) ≡ record { kind = 16; fault = 2; column = 15; values = [] }
unfolding lines_of onto word_start word_end run separates spells same_text folded values_of number_at number_between number_from with_digit count_from identity_at identity_between uuid_at uuid_between patterned spelled_by spelled_from with_character value_of place_in most_of digits uuid_pattern ulid_pattern holder_at holder_or_none holder_between word_at packed optional_at either_at range_at started_at child_at none_text from_text on_text off_text sell_text buy_text argument_at arguments_from ended grammar command_of command_from keyword_of signature_of
number_of_a-run = refl

-- ""
nothing : command_of [] ≡ record { kind = 0; fault = 0; column = 0; values = [] }
unfolding lines_of onto word_start word_end run separates spells same_text folded values_of number_at number_between number_from with_digit count_from identity_at identity_between uuid_at uuid_between patterned spelled_by spelled_from with_character value_of place_in most_of digits uuid_pattern ulid_pattern holder_at holder_or_none holder_between word_at packed optional_at either_at range_at started_at child_at none_text from_text on_text off_text sell_text buy_text argument_at arguments_from ended grammar command_of command_from keyword_of signature_of
nothing = refl

-- " ;,"
separators : command_of (32 ∷ 59 ∷ 44 ∷ []) ≡ record { kind = 0; fault = 0; column = 0; values = [] }
unfolding lines_of onto word_start word_end run separates spells same_text folded values_of number_at number_between number_from with_digit count_from identity_at identity_between uuid_at uuid_between patterned spelled_by spelled_from with_character value_of place_in most_of digits uuid_pattern ulid_pattern holder_at holder_or_none holder_between word_at packed optional_at either_at range_at started_at child_at none_text from_text on_text off_text sell_text buy_text argument_at arguments_from ended grammar command_of command_from keyword_of signature_of
separators = refl

-- " # walk"
comment_line : command_of (32 ∷ 35 ∷ 32 ∷ 119 ∷ 97 ∷ 108 ∷ 107 ∷ []) ≡ record { kind = 0; fault = 0; column = 0; values = [] }
unfolding lines_of onto word_start word_end run separates spells same_text folded values_of number_at number_between number_from with_digit count_from identity_at identity_between uuid_at uuid_between patterned spelled_by spelled_from with_character value_of place_in most_of digits uuid_pattern ulid_pattern holder_at holder_or_none holder_between word_at packed optional_at either_at range_at started_at child_at none_text from_text on_text off_text sell_text buy_text argument_at arguments_from ended grammar command_of command_from keyword_of signature_of
comment_line = refl

-- "walk # 7"
comment-behind : command_of (119 ∷ 97 ∷ 108 ∷ 107 ∷ 32 ∷ 35 ∷ 32 ∷ 55 ∷ []) ≡ record { kind = 17; fault = 0; column = 0; values = [] }
unfolding lines_of onto word_start word_end run separates spells same_text folded values_of number_at number_between number_from with_digit count_from identity_at identity_between uuid_at uuid_between patterned spelled_by spelled_from with_character value_of place_in most_of digits uuid_pattern ulid_pattern holder_at holder_or_none holder_between word_at packed optional_at either_at range_at started_at child_at none_text from_text on_text off_text sell_text buy_text argument_at arguments_from ended grammar command_of command_from keyword_of signature_of
comment-behind = refl

-- "sell;7;100;100;5;10;anna;;"
csv : command_of (115 ∷ 101 ∷ 108 ∷ 108 ∷ 59 ∷ 55 ∷ 59 ∷ 49 ∷ 48 ∷ 48 ∷ 59 ∷ 49 ∷ 48 ∷ 48 ∷ 59 ∷ 53 ∷ 59 ∷ 49 ∷ 48 ∷ 59 ∷ 97 ∷ 110 ∷ 110 ∷ 97 ∷ 59 ∷ 59 ∷ []) ≡ record { kind = 7; fault = 0; column = 0; values = 2 ∷ 0 ∷ 7 ∷ 100 ∷ 100 ∷ 5 ∷ 10 ∷ 7020670232008065024 ∷ 0 ∷ 0 ∷ 0 ∷ [] }
unfolding lines_of onto word_start word_end run separates spells same_text folded values_of number_at number_between number_from with_digit count_from identity_at identity_between uuid_at uuid_between patterned spelled_by spelled_from with_character value_of place_in most_of digits uuid_pattern ulid_pattern holder_at holder_or_none holder_between word_at packed optional_at either_at range_at started_at child_at none_text from_text on_text off_text sell_text buy_text argument_at arguments_from ended grammar command_of command_from keyword_of signature_of
csv = refl

-- "COLLAR None"
upper_case : command_of (67 ∷ 79 ∷ 76 ∷ 76 ∷ 65 ∷ 82 ∷ 32 ∷ 78 ∷ 111 ∷ 110 ∷ 101 ∷ []) ≡ record { kind = 3; fault = 0; column = 0; values = 0 ∷ 0 ∷ [] }
unfolding lines_of onto word_start word_end run separates spells same_text folded values_of number_at number_between number_from with_digit count_from identity_at identity_between uuid_at uuid_between patterned spelled_by spelled_from with_character value_of place_in most_of digits uuid_pattern ulid_pattern holder_at holder_or_none holder_between word_at packed optional_at either_at range_at started_at child_at none_text from_text on_text off_text sell_text buy_text argument_at arguments_from ended grammar command_of command_from keyword_of signature_of
upper_case = refl

-- "Holder Anna"
holder_keeps_case : command_of (72 ∷ 111 ∷ 108 ∷ 100 ∷ 101 ∷ 114 ∷ 32 ∷ 65 ∷ 110 ∷ 110 ∷ 97 ∷ []) ≡ record { kind = 25; fault = 0; column = 0; values = 4714827222794371072 ∷ 0 ∷ 0 ∷ 0 ∷ [] }
unfolding lines_of onto word_start word_end run separates spells same_text folded values_of number_at number_between number_from with_digit count_from identity_at identity_between uuid_at uuid_between patterned spelled_by spelled_from with_character value_of place_in most_of digits uuid_pattern ulid_pattern holder_at holder_or_none holder_between word_at packed optional_at either_at range_at started_at child_at none_text from_text on_text off_text sell_text buy_text argument_at arguments_from ended grammar command_of command_from keyword_of signature_of
holder_keeps_case = refl
