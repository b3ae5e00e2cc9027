-- Stops as the host keeps them and as a panel draws them, side by side, in one table that the checker computes: where
-- the watermarks part, where they meet again, and both ends of the price range. Document 02, Two.
use Prim.Native.Nat.{ℕ, ◌-◌, ◌^◌}
use mathlib.Core.Path.{◌≡◌, refl}
use mathlib.Core.List.{List, [], ◌∷◌, map}
use Rattle.pricelevel.specs.Price.{to_price}
use Rattle.pricelevel.specs.declared.Side.{Side}
use Rattle.pricelevel.specs.declared.Side.TheVariants.{Buy, Sell}
use Rattle.stop_terms.specs.Terms.{behind, candidate, tightened, ratcheted, trailed_at}
use Rattle.stop_terms.specs.declared.StopTerms.{StopTerms}
use Rattle.repricing.specs.Preview.{improved, preview}
use Rattle.repricing.specs.Previewed.{adjusted, previewed_at}

terms : Side → ℕ → ℕ → ℕ → StopTerms
terms side stop watermark trail = record {
  side = side;
  stop = to_price stop;
  watermark = to_price watermark;
  trail = trail;
}

-- after each price: stop and watermark kept, stop and watermark drawn
side_by_side : StopTerms → StopTerms → List ℕ → List (List ℕ)
side_by_side kept drawn [] = []
side_by_side kept drawn (p ∷ ps) =
    let k = trailed_at kept (to_price p) in
    let d = previewed_at drawn (to_price p) in
    (k.stop.0 ∷ k.watermark.0 ∷ d.stop.0 ∷ d.watermark.0 ∷ []) ∷ side_by_side k d ps

record Example : Type 0 where
  start : StopTerms
  prices : List ℕ
  expected : List (List ℕ)

example : StopTerms → List ℕ → List (List ℕ) → Example
example start prices expected = record { start = start; prices = prices; expected = expected }

line : ℕ → ℕ → ℕ → ℕ → List ℕ
line a b c d = a ∷ b ∷ c ∷ d ∷ []

top : ℕ
top = 2 ^ 64 - 1

table : List Example
table =
    -- 101 passes the watermark and does not improve the stop; at 106 the watermarks meet again
    example (terms Sell 95 100 10) (101 ∷ 106 ∷ []) (line 95 101 95 100 ∷ line 96 106 96 106 ∷ [])
    ∷ example (terms Buy 105 100 10) (99 ∷ 94 ∷ []) (line 105 99 105 100 ∷ line 104 94 104 94 ∷ [])
    -- 102 is past the panel's watermark alone, 105 leads to the stop itself
    ∷ example (terms Sell 95 100 10) (104 ∷ 102 ∷ 90 ∷ 105 ∷ 106 ∷ [])
    (line 95 104 95 100 ∷ line 95 104 95 100 ∷ line 95 104 95 100 ∷ line 95 105 95 100 ∷ line 96 106 96 106 ∷ [])
    -- at the watermark neither moves, though the candidate would improve the stop
    ∷ example (terms Sell 80 100 10) (100 ∷ 101 ∷ []) (line 80 100 80 100 ∷ line 91 101 91 101 ∷ [])
    -- below the trail a sell has no candidate
    ∷ example (terms Sell 0 0 10) (5 ∷ 10 ∷ 11 ∷ []) (line 0 5 0 0 ∷ line 0 10 0 0 ∷ line 1 11 1 11 ∷ [])
    ∷ example (terms Sell (top - 12) (top - 2) 10) ((top - 1) ∷ top ∷ [])
    (line (top - 11) (top - 1) (top - 11) (top - 1) ∷ line (top - 10) top (top - 10) top ∷ [])
    -- where the sum is no price a buy has none
    ∷ example (terms Buy top top 10) ((top - 2) ∷ (top - 10) ∷ (top - 11) ∷ [])
    (line top (top - 2) top top ∷ line top (top - 10) top top
    ∷ line (top - 1) (top - 11) (top - 1) (top - 11) ∷ [])
    ∷ example (terms Buy 10 1 10) (0 ∷ 0 ∷ []) (line 10 0 10 1 ∷ line 10 0 10 1 ∷ [])
    -- inconsistent terms, and a trail of zero
    ∷ example (terms Sell 120 100 0) (110 ∷ 130 ∷ []) (line 120 110 120 100 ∷ line 130 130 130 130 ∷ [])
    ∷ example (terms Buy 80 100 0) (90 ∷ 70 ∷ []) (line 80 90 80 100 ∷ line 70 70 70 70 ∷ [])
    ∷ []

examples : map (λ e. side_by_side e.start e.start e.prices) table ≡ map (λ e. e.expected) table
unfolding terms side_by_side example line top table behind candidate tightened ratcheted trailed_at improved preview adjusted previewed_at
examples = refl
