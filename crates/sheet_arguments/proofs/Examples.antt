-- Arguments as theorems, which the checker computes.
use mathlib.Core.Path.{◌≡◌, refl}
use mathlib.Core.List.{[], ◌∷◌}
use Rattle.text_words.specs.Words.{word_start, word_end, run, separates, spells, same_text, folded}
use Rattle.text_numbers.specs.Numbers.{number_at, number_between, number_from, with_digit}
use Rattle.text_numbers.specs.Steps.{bad, got, missing, not_number}
use Rattle.sheet_words.specs.Words.{optional_at, either_at, range_at, started_at, child_at, none_text, from_text, on_text, off_text, sell_text, buy_text}
use Rattle.sheet_arguments.specs.Arguments.{argument_at, not_on_off, not_side}

-- 'o' of "collar 25", from 6
given : argument_at 111 (99 ∷ 111 ∷ 108 ∷ 108 ∷ 97 ∷ 114 ∷ 32 ∷ 50 ∷ 53 ∷ []) 6 ≡ got 2 1 25 0 0 0 9
unfolding argument_at optional_at either_at range_at started_at child_at none_text from_text on_text off_text sell_text buy_text number_at number_between number_from with_digit word_start word_end run separates spells same_text folded
given = refl

-- 'o' of "collar NONE", from 6
not_given : argument_at 111 (99 ∷ 111 ∷ 108 ∷ 108 ∷ 97 ∷ 114 ∷ 32 ∷ 78 ∷ 79 ∷ 78 ∷ 69 ∷ []) 6 ≡ got 2 0 0 0 0 0 11
unfolding argument_at optional_at either_at range_at started_at child_at none_text from_text on_text off_text sell_text buy_text number_at number_between number_from with_digit word_start word_end run separates spells same_text folded
not_given = refl

-- 'o' of "collar", from 6
optional-missing : argument_at 111 (99 ∷ 111 ∷ 108 ∷ 108 ∷ 97 ∷ 114 ∷ []) 6 ≡ bad missing 7 6
unfolding argument_at optional_at either_at range_at started_at child_at none_text from_text on_text off_text sell_text buy_text number_at number_between number_from with_digit word_start word_end run separates spells same_text folded
optional-missing = refl

-- 'b' of "kill On", from 4
on : argument_at 98 (107 ∷ 105 ∷ 108 ∷ 108 ∷ 32 ∷ 79 ∷ 110 ∷ []) 4 ≡ got 1 1 0 0 0 0 7
unfolding argument_at optional_at either_at range_at started_at child_at none_text from_text on_text off_text sell_text buy_text number_at number_between number_from with_digit word_start word_end run separates spells same_text folded
on = refl

-- 'b' of "kill off", from 4
off : argument_at 98 (107 ∷ 105 ∷ 108 ∷ 108 ∷ 32 ∷ 111 ∷ 102 ∷ 102 ∷ []) 4 ≡ got 1 0 0 0 0 0 8
unfolding argument_at optional_at either_at range_at started_at child_at none_text from_text on_text off_text sell_text buy_text number_at number_between number_from with_digit word_start word_end run separates spells same_text folded
off = refl

-- 'b' of "kill of", from 4
neither_on_nor_off : argument_at 98 (107 ∷ 105 ∷ 108 ∷ 108 ∷ 32 ∷ 111 ∷ 102 ∷ []) 4 ≡ bad not_on_off 6 7
unfolding argument_at optional_at either_at range_at started_at child_at none_text from_text on_text off_text sell_text buy_text number_at number_between number_from with_digit word_start word_end run separates spells same_text folded
neither_on_nor_off = refl

-- 'b' of "kill #", from 4
on-missing : argument_at 98 (107 ∷ 105 ∷ 108 ∷ 108 ∷ 32 ∷ 35 ∷ []) 4 ≡ bad missing 6 5
unfolding argument_at optional_at either_at range_at started_at child_at none_text from_text on_text off_text sell_text buy_text number_at number_between number_from with_digit word_start word_end run separates spells same_text folded
on-missing = refl

-- 's' of "replace 7 SELL", from 9
sell : argument_at 115 (114 ∷ 101 ∷ 112 ∷ 108 ∷ 97 ∷ 99 ∷ 101 ∷ 32 ∷ 55 ∷ 32 ∷ 83 ∷ 69 ∷ 76 ∷ 76 ∷ []) 9 ≡ got 1 1 0 0 0 0 14
unfolding argument_at optional_at either_at range_at started_at child_at none_text from_text on_text off_text sell_text buy_text number_at number_between number_from with_digit word_start word_end run separates spells same_text folded
sell = refl

-- 's' of "replace 7 buy", from 9
buy : argument_at 115 (114 ∷ 101 ∷ 112 ∷ 108 ∷ 97 ∷ 99 ∷ 101 ∷ 32 ∷ 55 ∷ 32 ∷ 98 ∷ 117 ∷ 121 ∷ []) 9 ≡ got 1 0 0 0 0 0 13
unfolding argument_at optional_at either_at range_at started_at child_at none_text from_text on_text off_text sell_text buy_text number_at number_between number_from with_digit word_start word_end run separates spells same_text folded
buy = refl

-- 's' of "replace 7 sold", from 9
neither_sell_nor_buy : argument_at 115 (114 ∷ 101 ∷ 112 ∷ 108 ∷ 97 ∷ 99 ∷ 101 ∷ 32 ∷ 55 ∷ 32 ∷ 115 ∷ 111 ∷ 108 ∷ 100 ∷ []) 9 ≡ bad not_side 11 14
unfolding argument_at optional_at either_at range_at started_at child_at none_text from_text on_text off_text sell_text buy_text number_at number_between number_from with_digit word_start word_end run separates spells same_text folded
neither_sell_nor_buy = refl

-- 'c' of "child none", from 5
no_child : argument_at 99 (99 ∷ 104 ∷ 105 ∷ 108 ∷ 100 ∷ 32 ∷ 110 ∷ 111 ∷ 110 ∷ 101 ∷ []) 5 ≡ got 5 0 0 0 0 0 10
unfolding argument_at optional_at either_at range_at started_at child_at none_text from_text on_text off_text sell_text buy_text number_at number_between number_from with_digit word_start word_end run separates spells same_text folded
no_child = refl

-- 'c' of "child 95 90", from 5
child : argument_at 99 (99 ∷ 104 ∷ 105 ∷ 108 ∷ 100 ∷ 32 ∷ 57 ∷ 53 ∷ 32 ∷ 57 ∷ 48 ∷ []) 5 ≡ got 5 1 0 0 95 90 11
unfolding argument_at optional_at either_at range_at started_at child_at none_text from_text on_text off_text sell_text buy_text number_at number_between number_from with_digit word_start word_end run separates spells same_text folded
child = refl

-- 'c' of "child From 100 95 90", from 5
child_from : argument_at 99 (99 ∷ 104 ∷ 105 ∷ 108 ∷ 100 ∷ 32 ∷ 70 ∷ 114 ∷ 111 ∷ 109 ∷ 32 ∷ 49 ∷ 48 ∷ 48 ∷ 32 ∷ 57 ∷ 53 ∷ 32 ∷ 57 ∷ 48 ∷ []) 5 ≡ got 5 1 1 100 95 90 20
unfolding argument_at optional_at either_at range_at started_at child_at none_text from_text on_text off_text sell_text buy_text number_at number_between number_from with_digit word_start word_end run separates spells same_text folded
child_from = refl

-- 'c' of "child from 100 95", from 5
child-without_last : argument_at 99 (99 ∷ 104 ∷ 105 ∷ 108 ∷ 100 ∷ 32 ∷ 102 ∷ 114 ∷ 111 ∷ 109 ∷ 32 ∷ 49 ∷ 48 ∷ 48 ∷ 32 ∷ 57 ∷ 53 ∷ []) 5 ≡ bad missing 18 17
unfolding argument_at optional_at either_at range_at started_at child_at none_text from_text on_text off_text sell_text buy_text number_at number_between number_from with_digit word_start word_end run separates spells same_text folded
child-without_last = refl

-- 'c' of "child 95 x", from 5
child_no-number : argument_at 99 (99 ∷ 104 ∷ 105 ∷ 108 ∷ 100 ∷ 32 ∷ 57 ∷ 53 ∷ 32 ∷ 120 ∷ []) 5 ≡ bad not_number 10 10
unfolding argument_at optional_at either_at range_at started_at child_at none_text from_text on_text off_text sell_text buy_text number_at number_between number_from with_digit word_start word_end run separates spells same_text folded
child_no-number = refl
