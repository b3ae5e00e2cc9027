-- The book and its chains: document 01, The store.
use Rattle.std.specs.Prelude.{ℕ, suc, Bool, ◌&&◌, ◌||◌, List, [], ◌∷◌, map, ltb, eqb, None, Option, Some}
use Rattle.pricelevel.specs.declared.Side.{Side}
use Rattle.pricelevel.specs.declared.Side.TheVariants.{Buy, Sell}
use Rattle.book.specs.Lists.{sort_by}
use Rattle.book.specs.declared.StopEntry.{StopEntry}
pub use Rattle.book.specs.declared.Chain.{Chain}
pub use Rattle.book.specs.declared.Chain.TheVariants.{ByStop, ByWatermark}

-- one of the n records
pub data Slot : Type 0 where
  vacant : Slot
  held : StopEntry → Slot

-- next sequence, tick (0 none), the records in the order of their indices, which count from 1, and the free chain
pub record Book : Type 0 where
  pub next : ℕ
  pub tick : ℕ
  pub slots : List Slot
  pub free : List ℕ

abbrev pub chain_side : Chain → Side
chain_side (ByStop s) = s
chain_side (ByWatermark s) = s

abbrev pub side_of : StopEntry → Side
side_of t = t.terms.side

abbrev pub stop_of : StopEntry → ℕ
stop_of t = t.terms.stop.0

abbrev pub watermark_of : StopEntry → ℕ
watermark_of t = t.terms.watermark.0

abbrev pub seq_of : StopEntry → ℕ
seq_of t = t.seq.0

-- by a key, and between equal keys by a tie-break
unfoldable pub lexicographic : Bool → ℕ → ℕ → Bool → Bool
lexicographic earlier x y tie = earlier || (eqb x y && tie)

-- order of chains: sell stop descending, ties sequence ascending; buy stop ascending, ties ascending; sell watermark
-- ascending, ties ascending; buy watermark descending, ties sequence descending
unfoldable pub before : Chain → StopEntry → StopEntry → Bool
before (ByStop Sell) x y = lexicographic (ltb (stop_of y) (stop_of x)) (stop_of x) (stop_of y) (ltb (seq_of x) (seq_of y))
before (ByStop Buy) x y = lexicographic (ltb (stop_of x) (stop_of y)) (stop_of x) (stop_of y) (ltb (seq_of x) (seq_of y))
before (ByWatermark Sell) x y =
    lexicographic (ltb (watermark_of x) (watermark_of y)) (watermark_of x) (watermark_of y) (ltb (seq_of x) (seq_of y))
before (ByWatermark Buy) x y =
    lexicographic (ltb (watermark_of y) (watermark_of x)) (watermark_of x) (watermark_of y) (ltb (seq_of y) (seq_of x))

-- a pending stop with the index of its record
pub record Pending : Type 0 where
  pub index : ℕ
  pub entry : StopEntry

-- the stops that a choice takes from the records, by index from i on
unfoldable pub with_index : ℕ → Option StopEntry → List Pending → List Pending
with_index i None l = l
with_index i (Some t) l = record { index = i; entry = t } ∷ l

unfoldable pub gather : (Slot → Option StopEntry) → ℕ → List Slot → List Pending
gather choice i [] = []
gather choice i (s ∷ ss) = with_index i (choice s) (gather choice (suc i) ss)

-- in the order of a chain
abbrev pub earlier_in : Chain → Pending → Pending → Bool
earlier_in c p q = before c p.entry q.entry

abbrev pub sort : Chain → List Pending → List Pending
sort c l = sort_by (earlier_in c) l

-- the stop, if it is of this side
unfoldable pub of_side : Side → Side → StopEntry → Option StopEntry
of_side Sell Sell t = Some t
of_side Sell Buy t = None
of_side Buy Sell t = None
of_side Buy Buy t = Some t

unfoldable pub pending_on : Side → Slot → Option StopEntry
pending_on side vacant = None
pending_on side (held t) = of_side side (side_of t) t

-- a chain holds exactly the pending records of its side, in order
unfoldable pub chain : Chain → List Slot → List Pending
chain c ss = sort c (gather (pending_on (chain_side c)) 1 ss)

unfoldable pub entries : List Pending → List StopEntry
entries l = map (λ p. p.entry) l

unfoldable pub indices : List Pending → List ℕ
indices l = map (λ p. p.index) l

-- how many records are pending
unfoldable pub pending_count : List Slot → ℕ
pending_count [] = 0
pending_count (vacant ∷ ss) = pending_count ss
pending_count (held t ∷ ss) = suc (pending_count ss)
