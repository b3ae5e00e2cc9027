-- A run of prices evaluated both ways by the calls that a host links: words for arguments and answers. Document 01,
-- demand 3, and document 02, Five.
use Rattle.std.specs.Prelude.{ℕ, List, [], ◌∷◌, map}
use Rattle.error.specs.Answer.{Answer}
use Rattle.pricelevel.specs.Price.{to_price}
use Rattle.book.specs.Calls.{SegmentOutcome, WalkOutcome}
use Rattle.book.specs.declared.Counts.{Counts}
use Rattle.both_runs.specs.Turns.{turns_call}
use Rattle.both_ways.specs.Ends.{ends_call}
use Rattle.host_words.specs.Answers.{number, answered, counts_words}
use Rattle.host_words.specs.Arguments.{last_price_of, settings_of}

-- the segment over the ends of a run
abbrev pub ends_by_words : List ℕ → List ℕ → List ℕ → List ℕ → ℕ → ℕ → SegmentOutcome
ends_by_words settings prev prices w elected moved =
    ends_call (settings_of settings) (last_price_of prev) (map to_price prices) w elected moved

-- the walk over the turning points of a run
abbrev pub turns_by_words : List ℕ → List ℕ → List ℕ → ℕ → List ℕ → ℕ → WalkOutcome
turns_by_words settings prev prices places w elected =
    turns_call (settings_of settings) (last_price_of prev) (map to_price prices) places w elected

-- what one way answers: its number, moves and elected, which are 0 where it is refused
unfoldable pub way_words : Answer Counts → List ℕ
way_words a = number a ∷ answered counts_words a (0 ∷ 0 ∷ [])
