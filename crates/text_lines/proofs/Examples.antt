-- Texts as theorems, which the checker computes.
use mathlib.Core.Path.{◌≡◌, refl}
use mathlib.Core.List.{[], ◌∷◌}
use Rattle.text_lines.specs.Lines.{onto, lines_of, line_at}

-- ""
no_text : lines_of [] ≡ []
unfolding lines_of onto
no_text = refl

-- "\n"
empty_line : lines_of (10 ∷ []) ≡ [] ∷ []
unfolding lines_of onto
empty_line = refl

-- "ab"
no_feed : lines_of (97 ∷ 98 ∷ []) ≡ (97 ∷ 98 ∷ []) ∷ []
unfolding lines_of onto
no_feed = refl

-- "ab\nc"
two : lines_of (97 ∷ 98 ∷ 10 ∷ 99 ∷ []) ≡ (97 ∷ 98 ∷ []) ∷ (99 ∷ []) ∷ []
unfolding lines_of onto
two = refl

-- "ab\n\nc\n"
feed_last : lines_of (97 ∷ 98 ∷ 10 ∷ 10 ∷ 99 ∷ 10 ∷ []) ≡ (97 ∷ 98 ∷ []) ∷ [] ∷ (99 ∷ []) ∷ []
unfolding lines_of onto
feed_last = refl

-- line 0 of "ab\n\nc\n"
first : line_at 0 (97 ∷ 98 ∷ 10 ∷ 10 ∷ 99 ∷ 10 ∷ []) ≡ 97 ∷ 98 ∷ []
unfolding line_at lines_of onto
first = refl

-- line 1 of "ab\n\nc\n"
second : line_at 1 (97 ∷ 98 ∷ 10 ∷ 10 ∷ 99 ∷ 10 ∷ []) ≡ []
unfolding line_at lines_of onto
second = refl

-- line 2 of "ab\n\nc\n"
third : line_at 2 (97 ∷ 98 ∷ 10 ∷ 10 ∷ 99 ∷ 10 ∷ []) ≡ 99 ∷ []
unfolding line_at lines_of onto
third = refl

-- line 3 of "ab\n\nc\n"
past : line_at 3 (97 ∷ 98 ∷ 10 ∷ 10 ∷ 99 ∷ 10 ∷ []) ≡ []
unfolding line_at lines_of onto
past = refl
