-- A point, a segment and a walk over a book: document 01, One point, one segment, one pass.
use Rattle.std.specs.Prelude.{ℕ, ◌+◌, Bool, true, false, not, cond, ◌&&◌, List, [], ◌∷◌, ◌++◌, map, leb, ltb, eqb, None, Option, Some}
use Rattle.pricelevel.specs.declared.Price.{Price}
use Rattle.pricelevel.specs.declared.Side.{Side}
use Rattle.pricelevel.specs.declared.Side.TheVariants.{Buy, Sell}
use Rattle.stop_terms.specs.Terms.{trailed_at, elected_at}
use Rattle.book.specs.Book.{Slot, vacant, held, Book, ByStop, ByWatermark, Pending, gather, sort, side_of, stop_of, of_side}
use Rattle.book.specs.declared.Moved.{Moved}
use Rattle.book.specs.declared.PrintSegment.{PrintSegment}
use Rattle.book.specs.declared.StopEntry.{StopEntry}

-- a stop after trailing at a price
unfoldable pub trailed : Price → StopEntry → StopEntry
trailed price t = record { id = t.id; terms = trailed_at t.terms price; quantity = t.quantity; seq = t.seq; holder = t.holder }

-- the kill switch lets stops trail, and lets none be elected
unfoldable pub leaves : Bool → Price → StopEntry → Bool
leaves kill price t = not kill && elected_at t.terms price

-- what a point makes of a record: trailed, and taken out if it is elected
unfoldable pub vacated_if : Bool → StopEntry → Slot
vacated_if true t = vacant
vacated_if false t = held t

unfoldable pub settled : Bool → Price → Slot → Slot
settled kill price vacant = vacant
settled kill price (held t) = vacated_if (leaves kill price (trailed price t)) (trailed price t)

-- the stops of a side that a point takes out, as they leave, in stop chain order
unfoldable pub leaving_on : Bool → Side → StopEntry → Option StopEntry
leaving_on true side t = of_side side (side_of t) t
leaving_on false side t = None

unfoldable pub leaver : Bool → Price → Side → Slot → Option StopEntry
leaver kill price side vacant = None
leaver kill price side (held t) = leaving_on (leaves kill price (trailed price t)) side (trailed price t)

unfoldable pub elected_on : Bool → Price → Side → Book → List Pending
elected_on kill price side b = sort (ByStop side) (gather (leaver kill price side) 1 b.slots)

unfoldable pub elected_by : Bool → Bool → Price → Book → List Pending
elected_by kill true price b = elected_on kill price Sell b ++ elected_on kill price Buy b
elected_by kill false price b = elected_on kill price Buy b ++ elected_on kill price Sell b

-- a removed record goes to the head of the free chain, one after the other
unfoldable pub freed : List Pending → List ℕ → List ℕ
freed [] free = free
freed (p ∷ l) free = freed l (p.index ∷ free)

-- the stops of a side whose stop a point changes, in watermark chain order, with their new stops
unfoldable pub changed_on : Bool → Side → StopEntry → Option StopEntry
changed_on true side t = None
changed_on false side t = of_side side (side_of t) t

unfoldable pub mover : Price → Side → Slot → Option StopEntry
mover price side vacant = None
mover price side (held t) = changed_on (eqb (stop_of (trailed price t)) (stop_of t)) side t

unfoldable pub moved_entry : Price → Pending → Moved
moved_entry price p = record { id = p.entry.id; stop = (trailed price p.entry).terms.stop }

unfoldable pub moved_on : Price → Side → Book → List Moved
moved_on price side b = map (moved_entry price) (sort (ByWatermark side) (gather (mover price side) 1 b.slots))

unfoldable pub moved_by : Price → Book → List Moved
moved_by price b = moved_on price Sell b ++ moved_on price Buy b

-- a stop that left, with the price of the point that elected it
pub record Fill : Type 0 where
  pub stop : StopEntry
  pub trigger : Price

unfoldable pub fill_at : Price → Pending → Fill
fill_at price p = record { stop = p.entry; trigger = price }

-- what a point, or several, did
pub record Evaluated : Type 0 where
  pub book : Book
  pub fills : List Fill
  pub moved : List Moved

-- a point at a price: trail the sells, then the buys; then, unless the kill switch is on, take out the elected, one
-- side first
unfoldable pub point : Bool → Bool → Price → Book → Evaluated
point kill sells_first price b = record {
  book = record {
    next = b.next;
    tick = b.tick;
    slots = map (settled kill price) b.slots;
    free = freed (elected_by kill sells_first price b) b.free;
  };
  fills = map (fill_at price) (elected_by kill sells_first price b);
  moved = moved_by price b;
}

-- sells come first if price < arrived-from; if that is absent or equals the price, exactly when the segment's last ≤
-- its first
unfoldable pub sells_first : Bool → Option Price → Price → Bool
sells_first falls None price = falls
sells_first falls (Some from) price = cond (eqb from.0 price.0) falls (ltb price.0 from.0)

unfoldable pub falls_to : Price → Price → Bool
falls_to first last = leb last.0 first.0

-- one evaluation after another
unfoldable pub and_then : Evaluated → Evaluated → Evaluated
and_then o r = record { book = r.book; fills = o.fills ++ r.fills; moved = o.moved ++ r.moved }

-- a point at each price in turn, on the book that the point before left and arrived from that point's price
unfoldable pub walk_from : Bool → Bool → Option Price → List Price → Book → Evaluated
walk_from kill falls from [] b = record { book = b; fills = []; moved = [] }
walk_from kill falls from (p ∷ ps) b =
    and_then (point kill (sells_first falls from p) p b)
    (walk_from kill falls (Some p) ps (point kill (sells_first falls from p) p b).book)

-- the prices of a segment's points: first, and last if it differs
abbrev pub segment_prices : PrintSegment → List Price
segment_prices s = cond (eqb s.first.0 s.last.0) (s.first ∷ []) (s.first ∷ s.last ∷ [])

-- a segment: a point at first arrived from prev, and, if last differs, one at last arrived from first
unfoldable pub segment : Bool → PrintSegment → Book → Evaluated
segment kill s b = walk_from kill (falls_to s.first s.last) s.prev (segment_prices s) b

-- the last of a run of prices that begins with p
unfoldable pub last_of : Price → List Price → Price
last_of p [] = p
last_of p (q ∷ qs) = last_of q qs

-- a walk: first and last are those of the whole run
unfoldable pub walk : Bool → Option Price → List Price → Book → Evaluated
walk kill prev [] b = walk_from kill true prev [] b
walk kill prev (p ∷ ps) b = walk_from kill (falls_to p (last_of p ps)) prev (p ∷ ps) b
