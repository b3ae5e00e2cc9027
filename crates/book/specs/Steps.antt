-- The steps that a point consists of: the stops of one side trail, or the elected of one side leave. Document 01, One
-- point, one segment, one pass.
use Rattle.std.specs.Prelude.{Bool, true, false, cond, List, map, ◌++◌, None, Option, Some}
use Rattle.pricelevel.specs.declared.Price.{Price}
use Rattle.pricelevel.specs.declared.Side.{Side}
use Rattle.pricelevel.specs.declared.Side.TheVariants.{Buy, Sell}
use Rattle.stop_terms.specs.Terms.{elected_at}
use Rattle.book.specs.Book.{Slot, vacant, held, Book, ByStop, Pending, gather, sort, side_of}
use Rattle.book.specs.Evaluation.{trailed, leaving_on, freed}
use Rattle.book.specs.declared.StopEntry.{StopEntry}

unfoldable pub is_side : Side → Side → Bool
is_side Sell Sell = true
is_side Sell Buy = false
is_side Buy Sell = false
is_side Buy Buy = true

------------------------------------------------------------------------
-- The stops of a side trail

unfoldable pub trailed_slot : Side → Price → Slot → Slot
trailed_slot side price vacant = vacant
trailed_slot side price (held t) = held (cond (is_side side (side_of t)) (trailed price t) t)

unfoldable pub trailed_on : Side → Price → Book → Book
trailed_on side price b = record { next = b.next; tick = b.tick; slots = map (trailed_slot side price) b.slots; free = b.free }

------------------------------------------------------------------------
-- The elected of a side leave

-- the stop of a record, if it is of this side and the price elects it
unfoldable pub elect : Side → Price → Slot → Option StopEntry
elect side price vacant = None
elect side price (held t) = leaving_on (elected_at t.terms price) side t

-- in stop chain order
unfoldable pub elected_in : Side → Price → Book → List Pending
elected_in side price b = sort (ByStop side) (gather (elect side price) 1 b.slots)

unfoldable pub vacated_by : Option StopEntry → Slot → Slot
vacated_by None s = s
vacated_by (Some t) s = vacant

unfoldable pub stays : Side → Price → Slot → Slot
stays side price s = vacated_by (elect side price s) s

unfoldable pub taken_on : Side → Price → Book → Book
taken_on side price b = record {
  next = b.next;
  tick = b.tick;
  slots = map (stays side price) b.slots;
  free = freed (elected_in side price b) b.free;
}

------------------------------------------------------------------------
-- Both sides

unfoldable pub other : Side → Side
other Sell = Buy
other Buy = Sell

-- the side whose elected leave first
unfoldable pub first_side : Bool → Side
first_side true = Sell
first_side false = Buy

-- the sells trail, then the buys
unfoldable pub trailed_both : Price → Book → Book
trailed_both price b = trailed_on Buy price (trailed_on Sell price b)

-- the elected of both sides, one side first
unfoldable pub elected_both : Side → Price → Book → List Pending
elected_both d price b = elected_in d price b ++ elected_in (other d) price (taken_on d price b)

-- they leave
unfoldable pub taken_both : Side → Price → Book → Book
taken_both d price b = taken_on (other d) price (taken_on d price b)
