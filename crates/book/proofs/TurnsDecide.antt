-- Document 02, Five: a run of prices is decided by its turning points.
use Prim.Native.Nat.{ℕ, ◌≤◌}
use mathlib.Core.Path.{◌≡◌}
use mathlib.Core.Bool.{true}
use mathlib.Core.List.{List}
use native.Mathlib.Omega.{arith}
use lib.ListN.{length}
use Rattle.error.specs.Questions.{decide}
use Rattle.pricelevel.specs.declared.Price.{Price}
use Rattle.book.proofs.Agreement.{turning_points-walk}
use Rattle.book.proofs.AlikeOutcomes.{decided_alike, walk_accepted, store_trails}
use Rattle.book.proofs.TurningPoints.{turning_points_some, turning_points_length}
use Rattle.book.specs.Calls.{Settings, pending_in, walk_call}
use Rattle.book.specs.Evaluation.{Evaluated, walk}
use Rattle.book.specs.Runs.{DecidedAlike}
use Rattle.book.specs.Sizes.{most_prices}
use Rattle.book.specs.TurningPoints.{turning_points}
use Rattle.book.specs.Words.{book_of, well_formed}
use Rattle.std.specs.Prelude.{Option}

-- For every well-formed store, every run of 1 to 4,096 prices, prev or none, collar or none, any namespace, kill switch
-- on or off, and any lent lists as long as the walks demand: neither walk is refused; both answer the same number
-- elected; the elected entries are alike, entry by entry, in all but the trigger price; and the two stores are equal in
-- every word.
pub turns-decide : (s : Settings) (prev : Option Price) (prices : List Price) (w : List ℕ) (turned run : ℕ)
    → well_formed w ≡ true → 1 ≤ length prices → length prices ≤ most_prices
    → pending_in w ≤ turned → pending_in w ≤ run
    → DecidedAlike (walk_call s prev (turning_points prices) w turned) (walk_call s prev prices w run)
unfolding walk_call decide
turns-decide s prev prices w turned run formed some few h k =
    let o : Evaluated = walk s.kill prev (turning_points prices) (book_of w) in
    let r : Evaluated = walk s.kill prev prices (book_of w) in
    rw (
      walk_accepted w formed turned h (turning_points prices) (turning_points_some prices some)
          (omega (arith, turning_points_length prices)),
      walk_accepted w formed run k prices some few,
    )
    (decided_alike s w o r (turning_points-walk s.kill prev prices (book_of w) (store_trails w formed)))
