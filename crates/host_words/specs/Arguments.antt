-- What the words of an argument stand for. Those of a kind, a side, a change, a selector and a path's flags may be unknown; any but
-- 0 is on for a kill switch, for whether a run falls and for a price that may be absent.
use Rattle.std.specs.Prelude.{ℕ, Bool, not, cond, ◌&&◌, ◌||◌, List, leb, eqb, get_or, None, Option, Some}
use Rattle.error.specs.Answer.{Answer, refused, accepted}
use Rattle.pricelevel.specs.Holder.{holder_of}
use Rattle.pricelevel.specs.declared.Holder.{Holder}
use Rattle.pricelevel.specs.declared.Id.{Id}
use Rattle.pricelevel.specs.declared.Price.{Price}
use Rattle.pricelevel.specs.declared.Quantity.{Quantity}
use Rattle.stop_protection.specs.Collar.{try_new}
use Rattle.stop_protection.specs.declared.StopProtection.{StopProtection}
use Rattle.stop_terms.specs.declared.StopTerms.{StopTerms}
use Rattle.uuid_v5.specs.declared.Uuid.{Uuid}
use Rattle.book.specs.Words.{kind_of, side_from}
use Rattle.book.specs.declared.OrderUpdate.{OrderUpdate}
use Rattle.book.specs.declared.OrderUpdate.TheVariants.{UpdateQuantity, UpdatePrice, UpdatePriceAndQuantity, Replace}
use Rattle.book.specs.declared.PrintPath.{PrintPath}
use Rattle.book.specs.declared.PrintSegment.{PrintSegment}
use Rattle.book.specs.declared.Selector.{Selector}
use Rattle.book.specs.declared.Selector.TheVariants.{ByHolder, BySide, ByPriceRange}
use Rattle.book.specs.declared.Settings.{Settings}

abbrev pub is_on : ℕ → Bool
is_on flag = not (eqb flag 0)

abbrev pub price : ℕ → Price
price p = record { 0 = p }

-- document 01, head: an identity is a kind (0 UUID, 1 ULID, 2 sequential), high and low
abbrev pub id_known : List ℕ → Bool
id_known w = leb (get_or w 0 0) 2

abbrev pub id_of : List ℕ → Id
id_of w = record { kind = kind_of (get_or w 0 0); high = get_or w 1 0; low = get_or w 2 0 }

-- document 01, The store: side (0 buy, 1 sell), stop, watermark, trail
abbrev pub side_known : ℕ → Bool
side_known side = leb side 1

abbrev pub terms_known : List ℕ → Bool
terms_known w = side_known (get_or w 0 0)

abbrev pub terms_of : List ℕ → StopTerms
terms_of w = record { side = side_from (get_or w 0 0); stop = price (get_or w 1 0); watermark = price (get_or w 2 0); trail = get_or w 3 0 }

-- document 02, One: a holder is four words
abbrev pub holder_from : List ℕ → Holder
holder_from w = holder_of (get_or w 0 0) (get_or w 1 0) (get_or w 2 0) (get_or w 3 0)

-- a price that may be absent: present, price
abbrev pub last_price_from : ℕ → ℕ → Option Price
last_price_from present p = cond (eqb present 0) None (Some (price p))

abbrev pub last_price_of : List ℕ → Option Price
last_price_of w = last_price_from (get_or w 0 0) (get_or w 1 0)

-- document 01, One point, one segment, one pass: prev present, prev, first, last
abbrev pub prints_of : List ℕ → PrintSegment
prints_of w = record { prev = last_price_from (get_or w 0 0) (get_or w 1 0); first = price (get_or w 2 0); last = price (get_or w 3 0) }

-- the print path: open (0, 1), prev present (0, 1), prev, first
abbrev pub path_known : List ℕ → Bool
path_known w = leb (get_or w 0 0) 1 && leb (get_or w 1 0) 1

abbrev pub path_of : List ℕ → PrintPath
path_of w =
    record { «open» = is_on (get_or w 0 0); has_prev = is_on (get_or w 1 0); prev = price (get_or w 2 0); first = price (get_or w 3 0) }

-- document 01, Admission, change, cancel: change (0 quantity, 1 price, 2 price and quantity, 3 replace), side, price,
-- quantity. Of these only what the change has is read
abbrev pub update_known : List ℕ → Bool
update_known w = leb (get_or w 0 0) 2 || (eqb (get_or w 0 0) 3 && side_known (get_or w 1 0))

abbrev pub update_from : ℕ → ℕ → Price → Quantity → OrderUpdate
update_from change side p quantity =
    cond (eqb change 0) (UpdateQuantity quantity)
    (cond (eqb change 1) (UpdatePrice p)
    (cond (eqb change 2) (UpdatePriceAndQuantity p quantity) (Replace (side_from side) p quantity)))

abbrev pub update_of : List ℕ → OrderUpdate
update_of w = update_from (get_or w 0 0) (get_or w 1 0) (price (get_or w 2 0)) (record { 0 = get_or w 3 0 })

-- document 02, One: which stops (0 of a holder, 1 of a side, 2 in a range of stop prices), and the holder's four words,
-- the side, or the lowest and the highest price; words behind those have no influence
abbrev pub selector_known : List ℕ → Bool
selector_known w = cond (eqb (get_or w 0 0) 1) (side_known (get_or w 1 0)) (leb (get_or w 0 0) 2)

abbrev pub selector_of : List ℕ → Selector
selector_of w =
    cond (eqb (get_or w 0 0) 0) (ByHolder (holder_of (get_or w 1 0) (get_or w 2 0) (get_or w 3 0) (get_or w 4 0)))
    (cond (eqb (get_or w 0 0) 1) (BySide (side_from (get_or w 1 0))) (ByPriceRange (price (get_or w 1 0)) (price (get_or w 2 0))))

-- a collar of 0, which cannot be made, is none
abbrev pub protection_by : Answer StopProtection → Option StopProtection
protection_by (refused k) = None
protection_by (accepted p) = Some p

abbrev pub protection_of : ℕ → Option StopProtection
protection_of collar = protection_by (try_new collar)

-- high, low
abbrev pub namespace_of : List ℕ → Uuid
namespace_of w = record { high = get_or w 0 0; low = get_or w 1 0 }

-- kill switch, collar, namespace high, namespace low
abbrev pub settings_of : List ℕ → Settings
settings_of w = record {
  kill = is_on (get_or w 0 0);
  protection = protection_of (get_or w 1 0);
  namespace = record { high = get_or w 2 0; low = get_or w 3 0 };
}
