-- `host_terms::of_inconsistency` meets its contract.
use Rattle.stop_terms.specs.Terms.{inconsistency_number}
use Rattle.host_terms.proofs.of_inconsistency.Goals as goal

pub returns-in-None : goal.returns-in-None
unfolding inconsistency_number
returns-in-None c = rw c.in-None.is

pub returns-in-Some-ZeroTrail : goal.returns-in-Some-ZeroTrail
unfolding inconsistency_number
returns-in-Some-ZeroTrail c = let h = rw c.in-Some-ZeroTrail.is at c.in-Some-ZeroTrail.field-0-is in rw (c.in-Some-ZeroTrail.is, h)

pub returns-in-Some-SellAboveWatermark : goal.returns-in-Some-SellAboveWatermark
unfolding inconsistency_number
returns-in-Some-SellAboveWatermark c = let h = rw c.in-Some-SellAboveWatermark.is at c.in-Some-SellAboveWatermark.field-0-is in rw (c.in-Some-SellAboveWatermark.is, h)

pub returns-in-Some-BuyBelowWatermark : goal.returns-in-Some-BuyBelowWatermark
unfolding inconsistency_number
returns-in-Some-BuyBelowWatermark c = let h = rw c.in-Some-BuyBelowWatermark.is at c.in-Some-BuyBelowWatermark.field-0-is in rw (c.in-Some-BuyBelowWatermark.is, h)
