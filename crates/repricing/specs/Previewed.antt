-- A stop as a panel draws it from the preview, price by price, and what is claimed of it: document 02, Two.
use Rattle.std.specs.Prelude.{◌≡◌, List, [], ◌∷◌, None, Option, Some}
use Rattle.pricelevel.specs.declared.Price.{Price}
use Rattle.stop_terms.specs.Terms.{trailed_at}
use Rattle.stop_terms.specs.declared.StopTerms.{StopTerms}
use Rattle.repricing.specs.Preview.{preview}
use Rattle.repricing.specs.declared.Adjustment.{Adjustment}

-- a panel takes over the new stop and the new watermark; an empty preview means that its terms stay
unfoldable pub adjusted : StopTerms → Option Adjustment → StopTerms
adjusted t None = t
adjusted t (Some a) = record { side = t.side; stop = a.stop; watermark = a.reference; trail = t.trail }

-- a panel's terms after a price
unfoldable pub previewed_at : StopTerms → Price → StopTerms
previewed_at t price = adjusted t (preview t.side t.stop t.trail t.watermark price)

-- the stop after each of the prices, fed in turn to what makes new terms of terms and a price
unfoldable pub stop_after_each : (StopTerms → Price → StopTerms) → StopTerms → List Price → List Price
stop_after_each next t [] = []
stop_after_each next t (p ∷ ps) = (next t p).stop ∷ stop_after_each next (next t p) ps

-- a panel that has the terms u draws the stop right that the host keeps with the terms t: it has its side and its stop,
-- and, fed the same prices, any number and direction, the same stop after each price
pub record DrawsRight (t u : StopTerms) : Type 0 where
  pub side : u.side ≡ t.side
  pub stop : u.stop ≡ t.stop
  pub after_each : (prices : List Price) → stop_after_each previewed_at u prices ≡ stop_after_each trailed_at t prices
