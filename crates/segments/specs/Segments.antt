-- The second point of a segment: document 01, One point, one segment, one pass.
use Rattle.std.specs.Prelude.{cond, eqb, None, Option, Some}
use Rattle.pricelevel.specs.declared.Price.{Price}

-- at the last price, if that differs from the first
unfoldable pub second_point : Price → Price → Option Price
second_point first last = cond (eqb first.0 last.0) None (Some last)
