-- Demand 3 over two calls on lent words: the segment over a run's ends, and the walk over the run.
use Rattle.std.specs.Prelude.{ℕ, ◌*◌, ◌≤◌, true, List, [], ◌∷◌, ◌≡◌, length, Option}
use Rattle.error.specs.Answer.{refused}
use Rattle.pricelevel.specs.declared.Price.{Price}
use Rattle.pricelevel.specs.declared.Side.{Side}
use Rattle.book.specs.Calls.{pending_in, SegmentOutcome, segment_call}
use Rattle.book.specs.Sizes.{most_prices}
use Rattle.book.specs.Evaluation.{last_of}
use Rattle.book.specs.Runs.{Monotone}
use Rattle.book.specs.Words.{well_formed}
use Rattle.book.specs.declared.Settings.{Settings}

-- the segment over a run's ends; a run of no prices has none, and is refused with the walk's number
unfoldable pub ends_call : Settings → Option Price → List Price → List ℕ → ℕ → ℕ → SegmentOutcome
ends_call s prev [] w elected moved = record { answer = refused 16; words = w; elected = []; moved = [] }
ends_call s prev (p ∷ ps) w elected moved = segment_call s (record { prev = prev; first = p; last = last_of p ps }) w elected moved

-- a run that never falls (Sell) or never rises (Buy)
abbrev pub OneWay : Side → List Price → Type 0
OneWay d [] = Unit {0}
OneWay d (p ∷ ps) = Monotone d p ps

-- what demand 3 is about: two equal, well-formed stores, a run of 1 to 4,096 prices in one direction, and lists as long
-- as the calls demand
pub record Comparable (prices : List Price) (ends run : List ℕ) (elected moved listed : ℕ) : Type 0 where
  pub equal : ends ≡ run
  pub formed : well_formed ends ≡ true
  pub direction : Side
  pub goes : OneWay direction prices
  pub some : 1 ≤ length prices
  pub few : length prices ≤ most_prices
  pub elected_room : pending_in ends ≤ elected
  pub moved_room : 2 * pending_in ends ≤ moved
  pub listed_room : pending_in ends ≤ listed
