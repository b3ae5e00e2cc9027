-- What the words say of an election, and a store whose watermark chain the elected have left: document 01, One point,
-- one segment, one pass.
use Rattle.std.specs.Prelude.{ℕ, cond, List, [], ◌∷◌, get_or}
use Rattle.pricelevel.specs.declared.Price.{Price}
use Rattle.pricelevel.specs.declared.Side.{Side}
use Rattle.stop_terms.specs.Terms.{elected_at}
use Rattle.book.specs.Steps.{taken_on}
use Rattle.book.specs.Valid.{Valid, Fits}
use Rattle.book.specs.Book.{Book}
use Rattle.book.specs.Words.{chain_indices, entry_at}
use Rattle.book.specs.declared.Chain.TheVariants.{ByStop, ByWatermark}
use Rattle.chains.specs.Chained.{Chained, upd}
use Rattle.book.specs.Chains.{head_of, chains_of}
use Rattle.book.specs.declared.StoreChain.{StoreChain}
use Rattle.book.specs.declared.StoreChain.TheVariants.{Ordered}
use Rattle.pending_stops.specs.Stored.{Contents}

-- record i, if the price elects its stop, else 0
unfoldable pub elected_or0 : Price → List ℕ → ℕ → ℕ
elected_or0 price w i = cond (elected_at (entry_at w i).terms price) i 0

-- the first of the stop chain of a side, if the price elects it, else 0
unfoldable pub first_elected : Side → Price → List ℕ → ℕ
first_elected side price w = elected_or0 price w (get_or w (head_of (ByStop side)) 0)

-- the records of a chain whose stops the price does not elect
unfoldable pub unelected : Price → List ℕ → List ℕ → List ℕ
unelected price w [] = []
unelected price w (i ∷ l) = cond (elected_at (entry_at w i).terms price) (unelected price w l) (i ∷ unelected price w l)

-- the chains of a book, but for the watermark chain of a side, which the elected have left
abbrev pub dropped_chains : Side → Price → Book → StoreChain → List ℕ
dropped_chains side price b = upd (Ordered (ByWatermark side)) (chain_indices (ByWatermark side) (taken_on side price b)) (chains_of b)

-- the words of a store with these chains: the data of book b, this count, and then r
pub record Dropped (side : Side) (price : Price) (n : ℕ) (w : List ℕ) (count : ℕ) (b : Book) (r : List ℕ) : Type 0 where
  pub valid : Valid b
  pub fits : Fits b
  pub contents : Contents n w count b.next b.tick b.slots r
  pub chained : Chained n w (dropped_chains side price b)
