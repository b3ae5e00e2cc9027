-- The words of document 01's demand 3 and of document 02, Five: runs that never fall or never rise, elected entries that
-- are alike, and runs that a shorter one decides.
use Rattle.std.specs.Prelude.{ℕ, ◌≤◌, Bool, List, [], ◌∷◌, map, ◌≡◌, length, Option}
use Rattle.error.specs.Answer.{accepted}
use Rattle.pricelevel.specs.declared.Id.{Id}
use Rattle.pricelevel.specs.declared.Price.{Price}
use Rattle.pricelevel.specs.declared.Quantity.{Quantity}
use Rattle.pricelevel.specs.declared.Seq.{Seq}
use Rattle.pricelevel.specs.declared.Side.{Side}
use Rattle.pricelevel.specs.declared.Side.TheVariants.{Buy, Sell}
use Rattle.book.specs.Calls.{SegmentOutcome, WalkOutcome}
use Rattle.book.specs.declared.Elected.{Elected}
use Rattle.stop_protection.specs.declared.LimitPrice.{LimitPrice}

-- the direction of a run is the side whose stops trail it: a sell's go up, a buy's down
abbrev pub Goes : Side → ℕ → ℕ → Type 0
Goes Sell p q = p ≤ q
Goes Buy p q = q ≤ p

-- a run that never falls (Sell) or never rises (Buy)
abbrev pub Monotone : Side → Price → List Price → Type 0
Monotone d p [] = Unit {0}
Monotone d p (q ∷ qs) = Goes d p.0 q.0 × Monotone d q qs

-- what the evaluations of a run and of a shorter one must agree in: all of an elected entry but its trigger price; a
-- limit has both of its words
pub record Likeness : Type 0 where
  pub id : Id
  pub side : Side
  pub stop : Price
  pub quantity : Quantity
  pub seq : Seq
  pub limit : Option LimitPrice
  pub child : Id
  pub pending : Bool

unfoldable pub likeness : Elected → Likeness
likeness e = record {
  id = e.id;
  side = e.side;
  stop = e.stop;
  quantity = e.quantity;
  seq = e.seq;
  limit = e.limit;
  child = e.child;
  pending = e.pending;
}

-- A shorter run decides a run: neither evaluation is refused; both answer the same number elected, and list that many;
-- their elected entries are alike, entry by entry; and the two stores are equal in every word. How often stops moved is
-- not compared
pub record DecidedAlike (shorter run : WalkOutcome) : Type 0 where
  pub elected : ℕ
  pub moves : ℕ
  pub steps : ℕ
  pub shorter_answer : shorter.answer ≡ accepted (record { moves = moves; elected = elected })
  pub run_answer : run.answer ≡ accepted (record { moves = steps; elected = elected })
  pub listed : length shorter.elected ≡ elected
  pub alike : map likeness shorter.elected ≡ map likeness run.elected
  pub stores : shorter.words ≡ run.words

-- a segment's outcome without its moves
abbrev pub without_moved : SegmentOutcome → WalkOutcome
without_moved o = record { answer = o.answer; words = o.words; elected = o.elected }

-- demand 3, of the segment over a run's ends and the walk over the run
abbrev pub DecidedByEnds : SegmentOutcome → WalkOutcome → Type 0
DecidedByEnds ends run = DecidedAlike (without_moved ends) run
