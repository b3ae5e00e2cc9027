-- The print path: document 01, One point, one segment, one pass.
use Rattle.std.specs.Prelude.{ℕ, true, false, cond, ◌||◌, eqb, None, Option, Some}
use Rattle.pricelevel.specs.declared.Price.{Price}
use Rattle.book.specs.declared.PrintPath.{PrintPath}
use Rattle.book.specs.declared.PrintSegment.{PrintSegment}

-- the path open at a print; an absent prev is stored as 0
unfoldable pub opened : Option Price → Price → PrintPath
opened None price = record { «open» = true; has_prev = false; prev = record { 0 = 0 }; first = price }
opened (Some p) price = record { «open» = true; has_prev = true; prev = p; first = price }

-- record: given the pending count; ignored if that is zero or the path is open
unfoldable pub recorded : ℕ → Option Price → Price → PrintPath → PrintPath
recorded count prev price path = cond (eqb count 0 || path.«open») path (opened prev price)

-- reset: only closes it; prev and first stay
unfoldable pub closed : PrintPath → PrintPath
closed path = record { «open» = false; has_prev = path.has_prev; prev = path.prev; first = path.first }

unfoldable pub prev_of : PrintPath → Option Price
prev_of path = cond path.has_prev (Some path.prev) None

-- the last trade, or the first print if there is none
unfoldable pub last_or : Price → Option Price → Price
last_or first None = first
last_or first (Some p) = p

unfoldable pub segment_of : PrintPath → Option Price → PrintSegment
segment_of path trade = record { prev = prev_of path; first = path.first; last = last_or path.first trade }

-- take: none if closed; only closes it
pub record TakeOutcome : Type 0 where
  pub segment : Option PrintSegment
  pub path : PrintPath

unfoldable pub take : PrintPath → Option Price → TakeOutcome
take path trade = record { segment = cond path.«open» (Some (segment_of path trade)) None; path = closed path }
