-- What two calls on lent words must agree in, of which one evaluates a run of prices and the other a shorter run that
-- decides it: its ends, or its turning points.
use Rattle.std.specs.Prelude.{ℕ, List, ◌++◌, map, ◌≡◌, take, drop}
use Rattle.error.specs.Answer.{Answer, accepted}
use Rattle.book.specs.declared.Counts.{Counts}

-- all of an elected entry's words but the eighth, the trigger price
unfoldable pub alike_words : List ℕ → List ℕ
alike_words e = take 7 e ++ drop 8 e

-- of two answers, two stores and two lists of the elected after the calls: neither is refused; both answer the same
-- number elected; the entries listed are alike, entry by entry; and the two stores are equal in every word
pub record Decided (shorter run : Answer Counts) (shorterStore runStore : List ℕ) (shorterListed runListed : List (List ℕ)) : Type 0 where
  pub elected : ℕ
  pub moves : ℕ
  pub steps : ℕ
  pub shorter_answer : shorter ≡ accepted (record { moves = moves; elected = elected })
  pub run_answer : run ≡ accepted (record { moves = steps; elected = elected })
  pub alike : map alike_words (take elected shorterListed) ≡ map alike_words (take elected runListed)
  pub stores : shorterStore ≡ runStore
