-- The turning points of a run of prices: its first price, each at which it turns, and its last. Document 02, Five.
use Rattle.std.specs.Prelude.{ℕ, Bool, cond, ◌&&◌, ◌||◌, List, [], ◌∷◌, ◌++◌, leb, ltb, length}
use Rattle.error.specs.Answer.{Answer, refused, accepted}
use Rattle.error.specs.Questions.{Question, question, first_no, decide}
use Rattle.pricelevel.specs.declared.Price.{Price}
use Rattle.book.specs.Sizes.{most_prices}

-- a run that began or last turned at `start`, and has come to `here`, turns there if `next` follows: it is a high, above
-- both, or a low, below both. Along a level stretch `here` is the same, so that the run turns there once
unfoldable pub turns_at : Price → Price → Price → Bool
turns_at start here next =
    (ltb start.0 here.0 && ltb next.0 here.0) || (ltb here.0 start.0 && ltb here.0 next.0)

-- the turns of a run that has come from `start` to `here`, and its last price
unfoldable pub turns_from : Price → Price → List Price → List Price
turns_from start here [] = here ∷ []
turns_from start here (next ∷ ps) =
    let turns : Bool = turns_at start here next in
    cond turns (here ∷ []) [] ++ turns_from (cond turns here start) next ps

-- the last price is listed whatever it is, unless there is one price only
unfoldable pub turning_points : List Price → List Price
turning_points [] = []
turning_points (first ∷ []) = first ∷ []
turning_points (first ∷ next ∷ ps) = first ∷ turns_from first next ps

------------------------------------------------------------------------
-- The call

-- 1 to 4,096 prices? 16; the list at least as long as the run? 14
unfoldable pub turning_points_questions : List Price → ℕ → List Question
turning_points_questions prices list =
    question 16 (leb 1 (length prices) && leb (length prices) most_prices)
    ∷ question 14 (leb (length prices) list)
    ∷ []

-- how many prices are listed, and the prices
pub record TurningPointsOutcome : Type 0 where
  pub answer : Answer ℕ
  pub listed : List Price

unfoldable pub turning_points_call : List Price → ℕ → TurningPointsOutcome
turning_points_call prices list =
    decide (first_no (turning_points_questions prices list))
    (λ k. record { answer = refused k; listed = [] })
    (record { answer = accepted (length (turning_points prices)); listed = turning_points prices })
