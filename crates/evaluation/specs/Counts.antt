-- How many entries an evaluation lists, by its answer; none where it was refused.
use Rattle.std.specs.Prelude.{ℕ}
use Rattle.error.specs.Answer.{Answer, refused, accepted}
use Rattle.book.specs.declared.Counts.{Counts}
use Rattle.book.specs.declared.PassCounts.{PassCounts}

-- how many stops it elected, and how many it moved
unfoldable pub elected_count : Answer Counts → ℕ
elected_count (refused k) = 0
elected_count (accepted c) = c.elected

unfoldable pub moved_count : Answer Counts → ℕ
moved_count (refused k) = 0
moved_count (accepted c) = c.moves

-- how many stops a pass elected
unfoldable pub pass_count : Answer PassCounts → ℕ
pass_count (refused k) = 0
pass_count (accepted c) = c.elected
