-- The five chains of a store: the header word that starts each, the word of a record that links it, and the records
-- that it holds. Document 01, The store.
use Rattle.std.specs.Prelude.{ℕ, ◌-◌, ◌≤◌, ◌≡◌, List, length, get_or}
use Rattle.pricelevel.specs.Side.{side_number}
use Rattle.pricelevel.specs.declared.Side.{Side}
use Rattle.pricelevel.specs.declared.Side.TheVariants.{Buy, Sell}
use Rattle.book.specs.Book.{Slot, vacant, held, Book, Chain, ByStop, ByWatermark, chain_side, side_of}
use Rattle.book.specs.Sizes.{next_by_stop, next_by_watermark}
use Rattle.book.specs.Words.{chain_indices}
use Rattle.book.specs.declared.StopEntry.{StopEntry}
pub use Rattle.book.specs.declared.StoreChain.{StoreChain}
pub use Rattle.book.specs.declared.StoreChain.TheVariants.{Ordered, Free}

-- heads: 4 sell stop, 5 sell watermark, 6 buy stop, 7 buy watermark, 8 free
abbrev pub head_of : Chain → ℕ
head_of (ByStop Sell) = 4
head_of (ByWatermark Sell) = 5
head_of (ByStop Buy) = 6
head_of (ByWatermark Buy) = 7

abbrev pub start_of : StoreChain → ℕ
start_of (Ordered c) = head_of c
start_of Free = 8

-- the free chain goes through next by stop
abbrev pub link_of : Chain → ℕ
link_of (ByStop side) = next_by_stop
link_of (ByWatermark side) = next_by_watermark

abbrev pub next_of : StoreChain → ℕ
next_of (Ordered c) = link_of c
next_of Free = next_by_stop

-- a record is in chains of one group alone: the two of its side, by the side's number, or the free one
abbrev pub group_of : StoreChain → ℕ
group_of (Ordered c) = side_number (chain_side c)
group_of Free = 2

abbrev pub slot_group : Slot → ℕ
slot_group vacant = 2
slot_group (held t) = side_number (side_of t)

-- record i holds a stop of the side
pub record Member (side : Side) (ss : List Slot) (i : ℕ) : Type 0 where
  pub from : 1 ≤ i
  pub to : i ≤ length ss
  pub entry : StopEntry
  pub there : get_or ss (i - 1) vacant ≡ held entry
  pub is_of_side : side ≡ side_of entry

-- the records that each holds, in its order
abbrev pub chains_of : Book → StoreChain → List ℕ
chains_of b (Ordered c) = chain_indices c b
chains_of b Free = b.free
