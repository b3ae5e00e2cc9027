-- Examples of turning points, in one table that the checker computes: document 02, Five.
use Prim.Native.Nat.{ℕ, ◌-◌, ◌^◌}
use mathlib.Core.Path.{◌≡◌, refl}
use mathlib.Core.List.{List, [], ◌∷◌, map}
use Rattle.error.specs.Answer.{Answer, refused, accepted}
use Rattle.error.specs.Questions.{first_no, decide}
use Rattle.pricelevel.specs.Price.{to_price, price_word}
use Rattle.book.specs.TurningPoints.{turns_at, turns_from, turning_points, turning_points_questions, TurningPointsOutcome, turning_points_call}

-- refused is 0 and the number; accepted 1 and how many are listed; then the prices
told : Answer ℕ → List ℕ → List ℕ
told (refused k) l = 0 ∷ k ∷ l
told (accepted n) l = 1 ∷ n ∷ l

line : TurningPointsOutcome → List ℕ
line o = told o.answer (map price_word o.listed)

-- into a list with this many places
turned : ℕ → List ℕ → List ℕ
turned list prices = line (turning_points_call (map to_price prices) list)

top : ℕ
top = 2 ^ 64 - 1

found : List (List ℕ)
found =
    turned 1 (5 ∷ [])
    ∷ turned 3 (5 ∷ 5 ∷ 5 ∷ [])
    ∷ turned 3 (1 ∷ 3 ∷ 3 ∷ [])
    -- the turn of a level stretch, which no price of it has for its neighbours
    ∷ turned 4 (1 ∷ 3 ∷ 3 ∷ 2 ∷ [])
    -- the last at the first's price
    ∷ turned 5 (2 ∷ 1 ∷ 1 ∷ 2 ∷ 2 ∷ [])
    ∷ turned 9 (3 ∷ 3 ∷ 1 ∷ 1 ∷ 1 ∷ 4 ∷ 4 ∷ 2 ∷ 2 ∷ [])
    ∷ turned 3 (100 ∷ 110 ∷ 100 ∷ [])
    -- a level stretch on the way is no turn
    ∷ turned 6 (1 ∷ 2 ∷ 2 ∷ 3 ∷ 3 ∷ 4 ∷ [])
    ∷ turned 3 (4 ∷ 3 ∷ 1 ∷ [])
    ∷ turned 5 (0 ∷ top ∷ 0 ∷ top ∷ top ∷ [])
    ∷ turned 9 []
    -- as many places as the run, not as its turning points
    ∷ turned 2 (4 ∷ 3 ∷ 1 ∷ [])
    ∷ turned 0 (5 ∷ [])
    ∷ []

expected : List (List ℕ)
expected =
    (1 ∷ 1 ∷ 5 ∷ [])
    ∷ (1 ∷ 2 ∷ 5 ∷ 5 ∷ [])
    ∷ (1 ∷ 2 ∷ 1 ∷ 3 ∷ [])
    ∷ (1 ∷ 3 ∷ 1 ∷ 3 ∷ 2 ∷ [])
    ∷ (1 ∷ 3 ∷ 2 ∷ 1 ∷ 2 ∷ [])
    ∷ (1 ∷ 4 ∷ 3 ∷ 1 ∷ 4 ∷ 2 ∷ [])
    ∷ (1 ∷ 3 ∷ 100 ∷ 110 ∷ 100 ∷ [])
    ∷ (1 ∷ 2 ∷ 1 ∷ 4 ∷ [])
    ∷ (1 ∷ 2 ∷ 4 ∷ 1 ∷ [])
    ∷ (1 ∷ 4 ∷ 0 ∷ top ∷ 0 ∷ top ∷ [])
    ∷ (0 ∷ 16 ∷ [])
    ∷ (0 ∷ 14 ∷ [])
    ∷ (0 ∷ 14 ∷ [])
    ∷ []

examples : found ≡ expected
unfolding told line turned top found expected turns_at turns_from turning_points turning_points_questions turning_points_call first_no decide
examples = refl
