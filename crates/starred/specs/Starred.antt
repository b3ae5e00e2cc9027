-- The starred examples of document 01, in one table with one proof. The buy limit at the top is that of document 02, Four.
use Rattle.std.specs.Prelude.{ℕ, ◌-◌, ◌^◌, Bool, true, false, List, [], ◌∷◌, map, ◌≡◌, refl, None, Option}
use Rattle.book.specs.Evaluation.{sells_first, falls_to}
use Rattle.pricelevel.specs.Price.{to_price}
use Rattle.pricelevel.specs.TwoWords.{two_words}
use Rattle.pricelevel.specs.declared.Side.{Side}
use Rattle.pricelevel.specs.declared.Side.TheVariants.{Buy, Sell}
use Rattle.stop_protection.specs.Collar.{limit_for, limit_price}
use Rattle.stop_terms.specs.Terms.{behind, candidate, tightened, ratcheted, trailed_at, elects, elected_at}
use Rattle.stop_terms.specs.declared.StopTerms.{StopTerms}
use Rattle.pricelevel.specs.declared.Price.{Price}

-- Side, stop, watermark, trail.
unfoldable pub terms : Side → ℕ → ℕ → ℕ → StopTerms
terms side stop watermark trail = record {
  side = side;
  stop = to_price stop;
  watermark = to_price watermark;
  trail = trail;
}

unfoldable pub number : Bool → ℕ
number false = 0
number true = 1

-- An answer as numbers: the stop and the watermark of terms; 1 or 0 of a test; the high and the low word of a limit; 1
-- where sells come first at a segment's first point.
pub data Question : Type 0 where
  trailed : StopTerms → ℕ → Question
  elected : StopTerms → ℕ → Question
  limit : Side → ℕ → ℕ → Question
  sells_lead : Option Price → ℕ → ℕ → Question

unfoldable pub answer : Question → List ℕ
answer (trailed t price) = (trailed_at t (to_price price)).stop.0 ∷ (trailed_at t (to_price price)).watermark.0 ∷ []
answer (elected t price) = number (elected_at t (to_price price)) ∷ []
answer (limit side stop collar) =
    (limit_price collar side (to_price stop)).0.high ∷ (limit_price collar side (to_price stop)).0.low ∷ []
answer (sells_lead prev first last) =
    number (sells_first (falls_to (to_price first) (to_price last)) prev (to_price first)) ∷ []

pub record Example : Type 0 where
  pub question : Question
  pub expected : List ℕ

unfoldable pub example : Question → List ℕ → Example
example q e = record { question = q; expected = e }

unfoldable pub table : List Example
table =
    example (trailed (terms Sell 90 100 10) 105) (95 ∷ 105 ∷ [])
    ∷ example (trailed (terms Sell 90 100 10) 100) (90 ∷ 100 ∷ [])
    ∷ example (trailed (terms Sell 90 100 200) 105) (90 ∷ 105 ∷ [])
    ∷ example (trailed (terms Sell 95 100 10) 101) (95 ∷ 101 ∷ [])
    ∷ example (trailed (terms Buy 110 100 10) 95) (105 ∷ 95 ∷ [])
    ∷ example (trailed (terms Buy (2 ^ 64 - 1) (2 ^ 64 - 1) 10) (2 ^ 64 - 3)) ((2 ^ 64 - 1) ∷ (2 ^ 64 - 3) ∷ [])
    ∷ example (elected (terms Sell 95 100 10) 95) (1 ∷ [])
    ∷ example (elected (terms Sell 95 100 10) 96) (0 ∷ [])
    ∷ example (elected (terms Buy 105 100 10) 105) (1 ∷ [])
    ∷ example (elected (terms Buy 105 100 10) 104) (0 ∷ [])
    ∷ example (limit Sell 95 5) (0 ∷ 90 ∷ [])
    ∷ example (limit Sell 95 100) (0 ∷ 0 ∷ [])
    ∷ example (limit Buy (2 ^ 64 - 1) 1) (1 ∷ 0 ∷ [])
    ∷ example (sells_lead None 100 101) (0 ∷ [])
    ∷ example (sells_lead None 100 100) (1 ∷ [])
    ∷ []

unfoldable pub answered : List (List ℕ)
answered = map (λ e. answer e.question) table

unfoldable pub expected : List (List ℕ)
expected = map (λ e. e.expected) table

-- Every question has the answer that document 01 gives.
pub starred : answered ≡ expected
unfolding answered expected table example answer terms number behind candidate tightened ratcheted trailed_at elects elected_at limit_for limit_price two_words sells_first falls_to
starred = refl
