-- Document 02, Five, over two calls on lent words: the walk over a run's turning points, and the walk over the run.
use Rattle.std.specs.Prelude.{ℕ, ◌≤◌, true, List, [], ◌≡◌, length, Option}
use Rattle.error.specs.Answer.{Answer, refused, accepted}
use Rattle.pricelevel.specs.declared.Price.{Price}
use Rattle.book.specs.Calls.{pending_in, WalkOutcome, walk_call}
use Rattle.book.specs.Sizes.{most_prices}
use Rattle.book.specs.TurningPoints.{turning_points_call}
use Rattle.book.specs.Words.{well_formed}
use Rattle.book.specs.declared.Settings.{Settings}

-- the walk over prices that were listed; where that was refused, its number
unfoldable pub walk_listed : Settings → Option Price → Answer ℕ → List Price → List ℕ → ℕ → WalkOutcome
walk_listed s prev (refused k) prices w elected = record { answer = refused k; words = w; elected = [] }
walk_listed s prev (accepted n) prices w elected = walk_call s prev prices w elected

-- the walk over a run's turning points, for which a list has this many places
unfoldable pub turns_call : Settings → Option Price → List Price → ℕ → List ℕ → ℕ → WalkOutcome
turns_call s prev prices places w elected =
    walk_listed s prev (turning_points_call prices places).answer (turning_points_call prices places).listed w elected

-- what the claim is about: two equal, well-formed stores, a run of 1 to 4,096 prices, and lists as long as the calls
-- demand
pub record Comparable (prices : List Price) (turned run : List ℕ) (places elected listed : ℕ) : Type 0 where
  pub equal : turned ≡ run
  pub formed : well_formed turned ≡ true
  pub some : 1 ≤ length prices
  pub few : length prices ≤ most_prices
  pub places_room : length prices ≤ places
  pub elected_room : pending_in turned ≤ elected
  pub listed_room : pending_in turned ≤ listed
