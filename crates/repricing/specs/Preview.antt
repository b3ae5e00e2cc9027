-- The preview of a trailing stop: document 01, A stop's terms.
use Rattle.std.specs.Prelude.{ℕ, cond, None, Option, Some}
use Rattle.pricelevel.specs.declared.Price.{Price}
use Rattle.pricelevel.specs.declared.Side.{Side}
use Rattle.stop_terms.specs.Terms.{behind, candidate}
use Rattle.repricing.specs.declared.Adjustment.{Adjustment}

-- new stop and watermark, where there is a candidate and the stop improves
unfoldable pub improved : Side → ℕ → Price → Option ℕ → Option Adjustment
improved side stop price None = None
improved side stop price (Some c) = cond (behind side stop c) (Some (record { stop = record { 0 = c }; reference = price })) None

-- the preview gives them only when the price is past the watermark and the stop improves, else none
unfoldable pub preview : Side → Price → ℕ → Price → Price → Option Adjustment
preview side stop trail watermark price =
    cond (behind side watermark.0 price.0) (improved side stop.0 price (candidate side trail price.0)) None
