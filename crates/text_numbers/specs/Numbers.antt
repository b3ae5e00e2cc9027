-- Decimal numbers below 2^64: of a text, of a word, and of a run of words.
use Rattle.std.specs.Prelude.{ℕ, zero, suc, ◌+◌, ◌-◌, ◌*◌, cond, List, [], ◌∷◌, eqb, leb, length, Result, Ok, Err}
use Rattle.text_words.specs.Words.{word_start, word_end, between}
use Rattle.text_numbers.specs.Steps.{missing, not_number, too_large, bad, got}
use Rattle.text_numbers.specs.declared.Unread.{Unread}
use Rattle.text_numbers.specs.declared.Unread.TheVariants.{NotNumber, TooLarge}
use Rattle.text_numbers.specs.declared.Step.{Step}

-- why a text is no number, as a fault
abbrev pub fault_of : Unread → ℕ
fault_of NotNumber = not_number
fault_of TooLarge = too_large

-- a number with a digit behind it
unfoldable pub with_digit : ℕ → ℕ → Result ℕ Unread
with_digit n b =
    cond (leb 48 b)
    (cond (leb b 57) (cond (leb (n * 10 + (b - 48)) 18446744073709551615) (Ok (n * 10 + (b - 48))) (Err TooLarge)) (Err NotNumber))
    (Err NotNumber)

-- the first fault stays
abbrev pub digit_behind : Result ℕ Unread → ℕ → Result ℕ Unread
digit_behind (Ok n) b = with_digit n b
digit_behind (Err why) b = Err why

unfoldable pub number_from : Result ℕ Unread → List ℕ → Result ℕ Unread
number_from n [] = n
number_from n (b ∷ l) = number_from (digit_behind n b) l

-- the number that a text is
abbrev pub number_of : List ℕ → Result ℕ Unread
number_of l = number_from (Ok 0) l

abbrev pub of_number : Result ℕ Unread → ℕ → ℕ → Step
of_number (Ok n) start end = got 1 n 0 0 0 0 end
of_number (Err why) start end = bad (fault_of why) (start + 1) end

-- the number between two places, or that there is no word
unfoldable pub number_between : List ℕ → ℕ → ℕ → Step
number_between line start end =
    cond (eqb start end) (bad missing (start + 1) end) (of_number (number_of (between line start end)) start end)

-- the next word as a number
unfoldable pub number_at : List ℕ → ℕ → Step
number_at line at = number_between line (word_start line at) (word_end line at)

-- the numbers from a place to the end of the line, n of them read and `most` more at the most: the place where they begin, and how many
unfoldable pub count_from : ℕ → List ℕ → ℕ → ℕ → ℕ → Step
count_from zero line from at n = got 2 from n 0 0 0 at
count_from (suc most) line from at n =
    cond (eqb (number_at line at).fault 0) (count_from most line from (number_at line at).next (n + 1))
    (cond (eqb (number_at line at).fault missing)
    (cond (eqb n 0) (number_at line at) (got 2 from n 0 0 0 (number_at line at).next))
    (number_at line at))

-- one number at least; a line has fewer words than bytes and one
abbrev pub count_at : List ℕ → ℕ → Step
count_at line from = count_from (length line + 1) line from from 0

-- the numbers of k words from a place on
unfoldable pub numbers_at : ℕ → List ℕ → ℕ → List ℕ
numbers_at zero line at = []
numbers_at (suc k) line at = (number_at line at).a ∷ numbers_at k line (number_at line at).next
