-- The three questions that a stop's terms answer: document 01, A stop's terms.
use Rattle.std.specs.Prelude.{ℕ, ◌+◌, ◌-◌, ◌^◌, min, max, Bool, cond, leb, ltb, eqb, None, Option, Some}
use Rattle.pricelevel.specs.declared.Price.{Price}
use Rattle.pricelevel.specs.declared.Side.{Side}
use Rattle.pricelevel.specs.declared.Side.TheVariants.{Buy, Sell}
use Rattle.stop_terms.specs.declared.Inconsistency.{Inconsistency}
use Rattle.stop_terms.specs.declared.Inconsistency.TheVariants as terms
use Rattle.stop_terms.specs.declared.StopTerms.{StopTerms}

-- one price lies behind another on the way that stops of this side trail: a sell's go up, a buy's down
unfoldable pub behind : Side → ℕ → ℕ → Bool
behind Sell a b = ltb a b
behind Buy a b = ltb b a

-- where a price would put a stop that trails it: a sell's at price − trail, a buy's at price + trail; at no place, if
-- trail > price or the sum is 2^64 or more
unfoldable pub candidate : Side → ℕ → ℕ → Option ℕ
candidate Sell trail price = cond (leb trail price) (Some (price - trail)) None
candidate Buy trail price = cond (ltb (price + trail) (2 ^ 64)) (Some (price + trail)) None

-- a sell's stop becomes the larger of stop and candidate, a buy's the smaller; no candidate keeps the stop
unfoldable pub tightened : Side → ℕ → Option ℕ → ℕ
tightened side stop None = stop
tightened Sell stop (Some c) = max stop c
tightened Buy stop (Some c) = min stop c

-- the watermark is moved to the price, and the stop tightened
unfoldable pub ratcheted : StopTerms → Price → StopTerms
ratcheted t price = record {
  side = t.side;
  stop = record { 0 = tightened t.side t.stop.0 (candidate t.side t.trail price.0) };
  watermark = price;
  trail = t.trail;
}

-- trailed(price): a sell's terms move if price > watermark, a buy's if price < watermark; otherwise unchanged
unfoldable pub trailed_at : StopTerms → Price → StopTerms
trailed_at t price = cond (behind t.side t.watermark.0 price.0) (ratcheted t price) t

-- elected_by(price): a sell when price ≤ stop, a buy when price ≥ stop
unfoldable pub elects : Side → ℕ → ℕ → Bool
elects Sell price stop = leb price stop
elects Buy price stop = leb stop price

unfoldable pub elected_at : StopTerms → Price → Bool
elected_at t price = elects t.side price.0 t.stop.0

-- inconsistency: trail zero; sell stop above watermark; buy stop below it
unfoldable pub beyond : Side → Inconsistency
beyond Sell = terms.SellAboveWatermark
beyond Buy = terms.BuyBelowWatermark

unfoldable pub inconsistency_of : StopTerms → Option Inconsistency
inconsistency_of t =
    cond (eqb t.trail 0) (Some terms.ZeroTrail) (cond (behind t.side t.watermark.0 t.stop.0) (Some (beyond t.side)) None)

-- the number of the question that it answers no
unfoldable pub inconsistency_number : Option Inconsistency → Option ℕ
inconsistency_number None = None
inconsistency_number (Some terms.ZeroTrail) = Some 5
inconsistency_number (Some terms.SellAboveWatermark) = Some 6
inconsistency_number (Some terms.BuyBelowWatermark) = Some 6

-- the code's answer in these terms
unfoldable pub told_candidate : Option Price → Option ℕ
told_candidate None = None
told_candidate (Some price) = Some price.0
