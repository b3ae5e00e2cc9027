-- Words and texts as theorems, which the checker computes.
use mathlib.Core.Path.{◌≡◌, refl}
use mathlib.Core.Bool.{true, false}
use mathlib.Core.List.{[], ◌∷◌}
use Rattle.text_words.specs.Words.{word_start, word_end, run, separates, spells, same_text, folded}

-- "sell;7,;\t9", from 4
csv : (word_start (115 ∷ 101 ∷ 108 ∷ 108 ∷ 59 ∷ 55 ∷ 44 ∷ 59 ∷ 9 ∷ 57 ∷ []) 4 ≡ 5) × (word_end (115 ∷ 101 ∷ 108 ∷ 108 ∷ 59 ∷ 55 ∷ 44 ∷ 59 ∷ 9 ∷ 57 ∷ []) 4 ≡ 6)
unfolding word_start word_end run separates spells
csv = (refl, refl)

-- "sell;7,;\t9", from 6
separators-run : (word_start (115 ∷ 101 ∷ 108 ∷ 108 ∷ 59 ∷ 55 ∷ 44 ∷ 59 ∷ 9 ∷ 57 ∷ []) 6 ≡ 9) × (word_end (115 ∷ 101 ∷ 108 ∷ 108 ∷ 59 ∷ 55 ∷ 44 ∷ 59 ∷ 9 ∷ 57 ∷ []) 6 ≡ 10)
unfolding word_start word_end run separates spells
separators-run = (refl, refl)

-- "a # b", from 1
comment : (word_start (97 ∷ 32 ∷ 35 ∷ 32 ∷ 98 ∷ []) 1 ≡ 2) × (word_end (97 ∷ 32 ∷ 35 ∷ 32 ∷ 98 ∷ []) 1 ≡ 2)
unfolding word_start word_end run separates spells
comment = (refl, refl)

-- "a7#b", from 0
comment-ends_word : (word_start (97 ∷ 55 ∷ 35 ∷ 98 ∷ []) 0 ≡ 0) × (word_end (97 ∷ 55 ∷ 35 ∷ 98 ∷ []) 0 ≡ 2)
unfolding word_start word_end run separates spells
comment-ends_word = (refl, refl)

-- "walk\r", from 4
line_end : (word_start (119 ∷ 97 ∷ 108 ∷ 107 ∷ 13 ∷ []) 4 ≡ 5) × (word_end (119 ∷ 97 ∷ 108 ∷ 107 ∷ 13 ∷ []) 4 ≡ 5)
unfolding word_start word_end run separates spells
line_end = (refl, refl)

-- "Cancel-Holder", "cANCEL-hOLDER"
cases : same_text (67 ∷ 97 ∷ 110 ∷ 99 ∷ 101 ∷ 108 ∷ 45 ∷ 72 ∷ 111 ∷ 108 ∷ 100 ∷ 101 ∷ 114 ∷ []) (99 ∷ 65 ∷ 78 ∷ 67 ∷ 69 ∷ 76 ∷ 45 ∷ 104 ∷ 79 ∷ 76 ∷ 68 ∷ 69 ∷ 82 ∷ []) ≡ true
unfolding same_text folded
cases = refl

-- "none", "non"
shorter : same_text (110 ∷ 111 ∷ 110 ∷ 101 ∷ []) (110 ∷ 111 ∷ 110 ∷ []) ≡ false
unfolding same_text folded
shorter = refl

-- "[", "{"
no_letters : same_text (91 ∷ []) (123 ∷ []) ≡ false
unfolding same_text folded
no_letters = refl
