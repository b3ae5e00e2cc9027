-- Numbers as theorems, which the checker computes.
use mathlib.Core.Path.{◌≡◌, refl}
use mathlib.Core.List.{[], ◌∷◌}
use Rattle.text_words.specs.Words.{word_start, word_end, run, separates, spells}
use Rattle.text_numbers.specs.Numbers.{number_at, number_between, number_from, with_digit, count_at, count_from, numbers_at}
use Rattle.text_numbers.specs.Steps.{bad, got, missing, not_number, too_large}

-- " 18446744073709551615"
largest : number_at (32 ∷ 49 ∷ 56 ∷ 52 ∷ 52 ∷ 54 ∷ 55 ∷ 52 ∷ 52 ∷ 48 ∷ 55 ∷ 51 ∷ 55 ∷ 48 ∷ 57 ∷ 53 ∷ 53 ∷ 49 ∷ 54 ∷ 49 ∷ 53 ∷ []) 0 ≡ got 1 18446744073709551615 0 0 0 0 21
unfolding number_at number_between number_from with_digit count_from numbers_at word_start word_end run separates spells
largest = refl

-- "18446744073709551616"
one_more : number_at (49 ∷ 56 ∷ 52 ∷ 52 ∷ 54 ∷ 55 ∷ 52 ∷ 52 ∷ 48 ∷ 55 ∷ 51 ∷ 55 ∷ 48 ∷ 57 ∷ 53 ∷ 53 ∷ 49 ∷ 54 ∷ 49 ∷ 54 ∷ []) 0 ≡ bad too_large 1 20
unfolding number_at number_between number_from with_digit count_from numbers_at word_start word_end run separates spells
one_more = refl

-- "99999999999999999999"
one_digit_more : number_at (57 ∷ 57 ∷ 57 ∷ 57 ∷ 57 ∷ 57 ∷ 57 ∷ 57 ∷ 57 ∷ 57 ∷ 57 ∷ 57 ∷ 57 ∷ 57 ∷ 57 ∷ 57 ∷ 57 ∷ 57 ∷ 57 ∷ 57 ∷ []) 0 ≡ bad too_large 1 20
unfolding number_at number_between number_from with_digit count_from numbers_at word_start word_end run separates spells
one_digit_more = refl

-- "a -5"
sign : number_at (97 ∷ 32 ∷ 45 ∷ 53 ∷ []) 1 ≡ bad not_number 3 4
unfolding number_at number_between number_from with_digit count_from numbers_at word_start word_end run separates spells
sign = refl

-- "a  # 5"
nothing : number_at (97 ∷ 32 ∷ 32 ∷ 35 ∷ 32 ∷ 53 ∷ []) 1 ≡ bad missing 4 3
unfolding number_at number_between number_from with_digit count_from numbers_at word_start word_end run separates spells
nothing = refl

-- "p 5,6;7 # 8"
run_of_three : count_at (112 ∷ 32 ∷ 53 ∷ 44 ∷ 54 ∷ 59 ∷ 55 ∷ 32 ∷ 35 ∷ 32 ∷ 56 ∷ []) 1 ≡ got 2 1 3 0 0 0 8
unfolding number_at number_between number_from with_digit count_from numbers_at word_start word_end run separates spells
run_of_three = refl

-- "p "
run_of_none : count_at (112 ∷ 32 ∷ []) 1 ≡ bad missing 3 2
unfolding number_at number_between number_from with_digit count_from numbers_at word_start word_end run separates spells
run_of_none = refl

-- "p 5 x 7"
run_with_a_word : count_at (112 ∷ 32 ∷ 53 ∷ 32 ∷ 120 ∷ 32 ∷ 55 ∷ []) 1 ≡ bad not_number 5 5
unfolding number_at number_between number_from with_digit count_from numbers_at word_start word_end run separates spells
run_with_a_word = refl

-- "p 5,6;7 # 8"
numbers_of-run : numbers_at 3 (112 ∷ 32 ∷ 53 ∷ 44 ∷ 54 ∷ 59 ∷ 55 ∷ 32 ∷ 35 ∷ 32 ∷ 56 ∷ []) 1 ≡ 5 ∷ 6 ∷ 7 ∷ []
unfolding number_at number_between number_from with_digit count_from numbers_at word_start word_end run separates spells
numbers_of-run = refl
