-- What the two ways told, as the words of one answer.
use Prim.Native.Nat.{ℕ}
use mathlib.Core.Path.{◌≡◌}
use mathlib.Core.List.{List, [], ◌∷◌, ◌++◌}
use lib.ListN.{get_or}
use Rattle.error.specs.Answer.{Answer, refused, accepted}
use Rattle.book.specs.declared.Counts.{Counts}
use Rattle.host_words.specs.Answers.{answered, counts_words, number, Told}
use Rattle.yubtomiq.specs.BothWays.{way_words}

way_told : (a : Answer Counts) (r : ℕ) (after : List ℕ) → Told counts_words a (0 ∷ 0 ∷ []) r after
    → r ∷ get_or after 0 0 ∷ get_or after 1 0 ∷ [] ≡ way_words a
unfolding way_words number answered
way_told (refused k) r after t = rw (t.0, t.1)
way_told (accepted x) r after t = rw (t.0, t.1)

pub both_told : (a b : Answer Counts) (r q : ℕ) (first second : List ℕ) → Told counts_words a (0 ∷ 0 ∷ []) r first
    → Told counts_words b (0 ∷ 0 ∷ []) q second
    → r ∷ get_or first 0 0 ∷ get_or first 1 0 ∷ q ∷ get_or second 0 0 ∷ get_or second 1 0 ∷ [] ≡ way_words a ++ way_words b
both_told a b r q first second s t = rw (← way_told a r first s, ← way_told b q second t)
