-- Identities as theorems, which the checker computes.
use mathlib.Core.Path.{◌≡◌, refl}
use mathlib.Core.List.{[], ◌∷◌}
use Rattle.text_words.specs.Words.{word_start, word_end, run, separates, spells, folded}
use Rattle.text_numbers.specs.Numbers.{number_between, number_from, with_digit}
use Rattle.text_numbers.specs.Steps.{bad, got, missing, not_number}
use Rattle.text_identities.specs.Identities.{identity_at, identity_between, uuid_at, uuid_between, patterned, spelled_by, spelled_from, with_character, value_of, place_in, most_of, digits, uuid_pattern, ulid_pattern, not_uuid, not_ulid}

-- "6f9619ff-8b86-D011-b42d-00C04FC964FF 1"
uuid : identity_at (54 ∷ 102 ∷ 57 ∷ 54 ∷ 49 ∷ 57 ∷ 102 ∷ 102 ∷ 45 ∷ 56 ∷ 98 ∷ 56 ∷ 54 ∷ 45 ∷ 68 ∷ 48 ∷ 49 ∷ 49 ∷ 45 ∷ 98 ∷ 52 ∷ 50 ∷ 100 ∷ 45 ∷ 48 ∷ 48 ∷ 67 ∷ 48 ∷ 52 ∷ 70 ∷ 67 ∷ 57 ∷ 54 ∷ 52 ∷ 70 ∷ 70 ∷ 32 ∷ 49 ∷ []) 0 ≡ got 3 0 8040642770064822289 12983034126751327487 0 0 36
unfolding identity_at identity_between uuid_at uuid_between patterned spelled_by spelled_from with_character value_of place_in most_of digits uuid_pattern ulid_pattern number_between number_from with_digit word_start word_end run separates spells folded
uuid = refl

-- "namespace 6f9619ff-8b86-D011-b42d-00C04FC964FF"
uuid_alone : uuid_at (110 ∷ 97 ∷ 109 ∷ 101 ∷ 115 ∷ 112 ∷ 97 ∷ 99 ∷ 101 ∷ 32 ∷ 54 ∷ 102 ∷ 57 ∷ 54 ∷ 49 ∷ 57 ∷ 102 ∷ 102 ∷ 45 ∷ 56 ∷ 98 ∷ 56 ∷ 54 ∷ 45 ∷ 68 ∷ 48 ∷ 49 ∷ 49 ∷ 45 ∷ 98 ∷ 52 ∷ 50 ∷ 100 ∷ 45 ∷ 48 ∷ 48 ∷ 67 ∷ 48 ∷ 52 ∷ 70 ∷ 67 ∷ 57 ∷ 54 ∷ 52 ∷ 70 ∷ 70 ∷ []) 9 ≡ got 2 8040642770064822289 12983034126751327487 0 0 0 46
unfolding identity_at identity_between uuid_at uuid_between patterned spelled_by spelled_from with_character value_of place_in most_of digits uuid_pattern ulid_pattern number_between number_from with_digit word_start word_end run separates spells folded
uuid_alone = refl

-- " 6f9619ff08b86-D011-b42d-00C04FC964FF"
dash-missing : identity_at (32 ∷ 54 ∷ 102 ∷ 57 ∷ 54 ∷ 49 ∷ 57 ∷ 102 ∷ 102 ∷ 48 ∷ 56 ∷ 98 ∷ 56 ∷ 54 ∷ 45 ∷ 68 ∷ 48 ∷ 49 ∷ 49 ∷ 45 ∷ 98 ∷ 52 ∷ 50 ∷ 100 ∷ 45 ∷ 48 ∷ 48 ∷ 67 ∷ 48 ∷ 52 ∷ 70 ∷ 67 ∷ 57 ∷ 54 ∷ 52 ∷ 70 ∷ 70 ∷ []) 0 ≡ bad not_uuid 2 37
unfolding identity_at identity_between uuid_at uuid_between patterned spelled_by spelled_from with_character value_of place_in most_of digits uuid_pattern ulid_pattern number_between number_from with_digit word_start word_end run separates spells folded
dash-missing = refl

-- "6f9619ff-8b86-D011-b42d-00C04FC964Fg"
no_hexadecimal_digit : identity_at (54 ∷ 102 ∷ 57 ∷ 54 ∷ 49 ∷ 57 ∷ 102 ∷ 102 ∷ 45 ∷ 56 ∷ 98 ∷ 56 ∷ 54 ∷ 45 ∷ 68 ∷ 48 ∷ 49 ∷ 49 ∷ 45 ∷ 98 ∷ 52 ∷ 50 ∷ 100 ∷ 45 ∷ 48 ∷ 48 ∷ 67 ∷ 48 ∷ 52 ∷ 70 ∷ 67 ∷ 57 ∷ 54 ∷ 52 ∷ 70 ∷ 103 ∷ []) 0 ≡ bad not_uuid 1 36
unfolding identity_at identity_between uuid_at uuid_between patterned spelled_by spelled_from with_character value_of place_in most_of digits uuid_pattern ulid_pattern number_between number_from with_digit word_start word_end run separates spells folded
no_hexadecimal_digit = refl

-- "u 7"
uuid_wanted : uuid_at (117 ∷ 32 ∷ 55 ∷ []) 1 ≡ bad not_uuid 3 3
unfolding identity_at identity_between uuid_at uuid_between patterned spelled_by spelled_from with_character value_of place_in most_of digits uuid_pattern ulid_pattern number_between number_from with_digit word_start word_end run separates spells folded
uuid_wanted = refl

-- "u"
uuid-missing : uuid_at (117 ∷ []) 1 ≡ bad missing 2 1
unfolding identity_at identity_between uuid_at uuid_between patterned spelled_by spelled_from with_character value_of place_in most_of digits uuid_pattern ulid_pattern number_between number_from with_digit word_start word_end run separates spells folded
uuid-missing = refl

-- "01ARZ3NDEKTSV4RRFFQ69G5FAV"
ulid : identity_at (48 ∷ 49 ∷ 65 ∷ 82 ∷ 90 ∷ 51 ∷ 78 ∷ 68 ∷ 69 ∷ 75 ∷ 84 ∷ 83 ∷ 86 ∷ 52 ∷ 82 ∷ 82 ∷ 70 ∷ 70 ∷ 81 ∷ 54 ∷ 57 ∷ 71 ∷ 53 ∷ 70 ∷ 65 ∷ 86 ∷ []) 0 ≡ got 3 1 96332863914628726 5503943799937875291 0 0 26
unfolding identity_at identity_between uuid_at uuid_between patterned spelled_by spelled_from with_character value_of place_in most_of digits uuid_pattern ulid_pattern number_between number_from with_digit word_start word_end run separates spells folded
ulid = refl

-- "01arz3ndektsv4rrffq69g5fav"
ulid_small : identity_at (48 ∷ 49 ∷ 97 ∷ 114 ∷ 122 ∷ 51 ∷ 110 ∷ 100 ∷ 101 ∷ 107 ∷ 116 ∷ 115 ∷ 118 ∷ 52 ∷ 114 ∷ 114 ∷ 102 ∷ 102 ∷ 113 ∷ 54 ∷ 57 ∷ 103 ∷ 53 ∷ 102 ∷ 97 ∷ 118 ∷ []) 0 ≡ got 3 1 96332863914628726 5503943799937875291 0 0 26
unfolding identity_at identity_between uuid_at uuid_between patterned spelled_by spelled_from with_character value_of place_in most_of digits uuid_pattern ulid_pattern number_between number_from with_digit word_start word_end run separates spells folded
ulid_small = refl

-- "7ZZZZZZZZZZZZZZZZZZZZZZZZZ"
largest_ulid : identity_at (55 ∷ 90 ∷ 90 ∷ 90 ∷ 90 ∷ 90 ∷ 90 ∷ 90 ∷ 90 ∷ 90 ∷ 90 ∷ 90 ∷ 90 ∷ 90 ∷ 90 ∷ 90 ∷ 90 ∷ 90 ∷ 90 ∷ 90 ∷ 90 ∷ 90 ∷ 90 ∷ 90 ∷ 90 ∷ 90 ∷ []) 0 ≡ got 3 1 18446744073709551615 18446744073709551615 0 0 26
unfolding identity_at identity_between uuid_at uuid_between patterned spelled_by spelled_from with_character value_of place_in most_of digits uuid_pattern ulid_pattern number_between number_from with_digit word_start word_end run separates spells folded
largest_ulid = refl

-- "8ZZZZZZZZZZZZZZZZZZZZZZZZZ"
ulid_too_large : identity_at (56 ∷ 90 ∷ 90 ∷ 90 ∷ 90 ∷ 90 ∷ 90 ∷ 90 ∷ 90 ∷ 90 ∷ 90 ∷ 90 ∷ 90 ∷ 90 ∷ 90 ∷ 90 ∷ 90 ∷ 90 ∷ 90 ∷ 90 ∷ 90 ∷ 90 ∷ 90 ∷ 90 ∷ 90 ∷ 90 ∷ []) 0 ≡ bad not_ulid 1 26
unfolding identity_at identity_between uuid_at uuid_between patterned spelled_by spelled_from with_character value_of place_in most_of digits uuid_pattern ulid_pattern number_between number_from with_digit word_start word_end run separates spells folded
ulid_too_large = refl

-- "a 01ARZ3NDEKTSV4RRFFQ69G5FAI"
no_letter_i : identity_at (97 ∷ 32 ∷ 48 ∷ 49 ∷ 65 ∷ 82 ∷ 90 ∷ 51 ∷ 78 ∷ 68 ∷ 69 ∷ 75 ∷ 84 ∷ 83 ∷ 86 ∷ 52 ∷ 82 ∷ 82 ∷ 70 ∷ 70 ∷ 81 ∷ 54 ∷ 57 ∷ 71 ∷ 53 ∷ 70 ∷ 65 ∷ 73 ∷ []) 1 ≡ bad not_ulid 3 28
unfolding identity_at identity_between uuid_at uuid_between patterned spelled_by spelled_from with_character value_of place_in most_of digits uuid_pattern ulid_pattern number_between number_from with_digit word_start word_end run separates spells folded
no_letter_i = refl

-- "a 01ARZ3NDEKTSV4RRFFQ69G5FAL"
no_letter_l : identity_at (97 ∷ 32 ∷ 48 ∷ 49 ∷ 65 ∷ 82 ∷ 90 ∷ 51 ∷ 78 ∷ 68 ∷ 69 ∷ 75 ∷ 84 ∷ 83 ∷ 86 ∷ 52 ∷ 82 ∷ 82 ∷ 70 ∷ 70 ∷ 81 ∷ 54 ∷ 57 ∷ 71 ∷ 53 ∷ 70 ∷ 65 ∷ 76 ∷ []) 1 ≡ bad not_ulid 3 28
unfolding identity_at identity_between uuid_at uuid_between patterned spelled_by spelled_from with_character value_of place_in most_of digits uuid_pattern ulid_pattern number_between number_from with_digit word_start word_end run separates spells folded
no_letter_l = refl

-- "a 01ARZ3NDEKTSV4RRFFQ69G5FAO"
no_letter_o : identity_at (97 ∷ 32 ∷ 48 ∷ 49 ∷ 65 ∷ 82 ∷ 90 ∷ 51 ∷ 78 ∷ 68 ∷ 69 ∷ 75 ∷ 84 ∷ 83 ∷ 86 ∷ 52 ∷ 82 ∷ 82 ∷ 70 ∷ 70 ∷ 81 ∷ 54 ∷ 57 ∷ 71 ∷ 53 ∷ 70 ∷ 65 ∷ 79 ∷ []) 1 ≡ bad not_ulid 3 28
unfolding identity_at identity_between uuid_at uuid_between patterned spelled_by spelled_from with_character value_of place_in most_of digits uuid_pattern ulid_pattern number_between number_from with_digit word_start word_end run separates spells folded
no_letter_o = refl

-- "a 01ARZ3NDEKTSV4RRFFQ69G5FAU"
no_letter_u : identity_at (97 ∷ 32 ∷ 48 ∷ 49 ∷ 65 ∷ 82 ∷ 90 ∷ 51 ∷ 78 ∷ 68 ∷ 69 ∷ 75 ∷ 84 ∷ 83 ∷ 86 ∷ 52 ∷ 82 ∷ 82 ∷ 70 ∷ 70 ∷ 81 ∷ 54 ∷ 57 ∷ 71 ∷ 53 ∷ 70 ∷ 65 ∷ 85 ∷ []) 1 ≡ bad not_ulid 3 28
unfolding identity_at identity_between uuid_at uuid_between patterned spelled_by spelled_from with_character value_of place_in most_of digits uuid_pattern ulid_pattern number_between number_from with_digit word_start word_end run separates spells folded
no_letter_u = refl

-- "a 42"
number : identity_at (97 ∷ 32 ∷ 52 ∷ 50 ∷ []) 1 ≡ got 3 2 0 42 0 0 4
unfolding identity_at identity_between uuid_at uuid_between patterned spelled_by spelled_from with_character value_of place_in most_of digits uuid_pattern ulid_pattern number_between number_from with_digit word_start word_end run separates spells folded
number = refl

-- "a 4x"
no_number : identity_at (97 ∷ 32 ∷ 52 ∷ 120 ∷ []) 1 ≡ bad not_number 3 4
unfolding identity_at identity_between uuid_at uuid_between patterned spelled_by spelled_from with_character value_of place_in most_of digits uuid_pattern ulid_pattern number_between number_from with_digit word_start word_end run separates spells folded
no_number = refl

-- "a "
identity-missing : identity_at (97 ∷ 32 ∷ []) 1 ≡ bad missing 3 2
unfolding identity_at identity_between uuid_at uuid_between patterned spelled_by spelled_from with_character value_of place_in most_of digits uuid_pattern ulid_pattern number_between number_from with_digit word_start word_end run separates spells folded
identity-missing = refl
