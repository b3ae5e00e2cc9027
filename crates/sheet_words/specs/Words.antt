-- Arguments that are words of the language, or numbers in their place.
use Rattle.std.specs.Prelude.{ℕ, ◌+◌, cond, List, [], ◌∷◌, eqb}
use Rattle.text_words.specs.Words.{word_start, word_end, between, same_text}
use Rattle.text_numbers.specs.Numbers.{number_at}
use Rattle.text_numbers.specs.Steps.{missing, bad, got}
use Rattle.text_numbers.specs.declared.Step.{Step}

-- the next word
abbrev pub word_at : List ℕ → ℕ → List ℕ
word_at line at = between line (word_start line at) (word_end line at)

-- "none", "from", "on", "off", "sell", "buy"
unfoldable pub none_text : List ℕ
none_text = 110 ∷ 111 ∷ 110 ∷ 101 ∷ []

unfoldable pub from_text : List ℕ
from_text = 102 ∷ 114 ∷ 111 ∷ 109 ∷ []

unfoldable pub on_text : List ℕ
on_text = 111 ∷ 110 ∷ []

unfoldable pub off_text : List ℕ
off_text = 111 ∷ 102 ∷ 102 ∷ []

unfoldable pub sell_text : List ℕ
sell_text = 115 ∷ 101 ∷ 108 ∷ 108 ∷ []

unfoldable pub buy_text : List ℕ
buy_text = 98 ∷ 117 ∷ 121 ∷ []

-- a number that is there
abbrev pub present : Step → Step
present s = cond (eqb s.fault 0) (got 2 1 s.a 0 0 0 s.next) s

-- a number or `none`: whether it is there, and the number
unfoldable pub optional_at : List ℕ → ℕ → Step
optional_at line at = cond (same_text (word_at line at) none_text) (got 2 0 0 0 0 0 (word_end line at)) (present (number_at line at))

-- one word or another: 1 for the first, 0 for the second
unfoldable pub either_at : List ℕ → List ℕ → ℕ → List ℕ → ℕ → Step
either_at one other fault line at =
    cond (eqb (word_start line at) (word_end line at)) (bad missing (word_start line at + 1) (word_end line at))
    (cond (same_text (word_at line at) one) (got 1 1 0 0 0 0 (word_end line at))
    (cond (same_text (word_at line at) other) (got 1 0 0 0 0 0 (word_end line at))
    (bad fault (word_start line at + 1) (word_end line at))))

-- FIRST LAST of a child, behind what is known of its start: whether it is given, and the price
unfoldable pub range_at : ℕ → ℕ → List ℕ → ℕ → Step
range_at given start line at =
    let first = number_at line at in
    let last = number_at line first.next in
    cond (eqb first.fault 0)
    (cond (eqb last.fault 0) (got 5 1 given start first.a last.a last.next) last)
    first

-- P FIRST LAST, behind `from`
unfoldable pub started_at : List ℕ → ℕ → Step
started_at line at =
    let start = number_at line at in
    cond (eqb start.fault 0) (range_at 1 start.a line start.next) start

-- a child: `none`, or FIRST LAST, or `from` P FIRST LAST
unfoldable pub child_at : List ℕ → ℕ → Step
child_at line at =
    cond (same_text (word_at line at) none_text) (got 5 0 0 0 0 0 (word_end line at))
    (cond (same_text (word_at line at) from_text) (started_at line (word_end line at)) (range_at 0 0 line at))
