-- What trailing does along the watermark chain of a side, before the chains are put in order: document 01, One point,
-- one segment, one pass.
use Rattle.std.specs.Prelude.{ℕ, ◌≤◌, ◌<◌, Bool, false, cond, List, ltb, eqb, length, get_or}
use Rattle.pricelevel.specs.declared.Price.{Price}
use Rattle.pricelevel.specs.declared.Side.{Side}
use Rattle.stop_terms.specs.Terms.{behind}
use Rattle.book.specs.Book.{Book, stop_of, watermark_of, pending_count}
use Rattle.book.specs.Evaluation.{trailed}
use Rattle.book.specs.Words.{entry_at}
use Rattle.book.specs.declared.Chain.{Chain}
use Rattle.book.specs.declared.StopEntry.{StopEntry}
use Rattle.chains.specs.Chained.{Chained}
use Rattle.chains.specs.Rank.{rank_at}
use Rattle.chains.specs.Records.{Record}
use Rattle.pending_stops.specs.Stored.{Contents}
use Rattle.book.specs.Chains.{chains_of}

-- the word at p is in the slice, and names one of the n records or is 0
pub record Names (n : ℕ) (w : List ℕ) (p : ℕ) : Type 0 where
  pub inside : p < length w
  pub named : 1 ≤ get_or w p 0 → Record n w (get_or w p 0)

-- record i, if it is one and its watermark is behind the price, else 0
unfoldable pub if_behind : Side → Price → List ℕ → ℕ → ℕ
if_behind side price w i = cond (eqb i 0) 0 (cond (behind side (watermark_of (entry_at w i)) price.0) i 0)

-- 1 if trailing at the price changes the stop, else 0
unfoldable pub moves : Price → StopEntry → ℕ
moves price t = cond (eqb (stop_of (trailed price t)) (stop_of t)) 0 1

-- a list is in order so far, its last of rank x, and one of rank y after it does not rank below that
unfoldable pub still_in_order : Bool → ℕ → ℕ → Bool
still_in_order so_far x y = cond (ltb y x) false so_far

-- the same with record i after it, if it is one
unfoldable pub ends_in_order : Bool → ℕ → Chain → List ℕ → ℕ → Bool
ends_in_order so_far x c w i = cond (eqb i 0) so_far (still_in_order so_far x (rank_at c w i))

-- the words say what those of the book d do, but for the chains, which are those of b
pub record Unsorted (n : ℕ) (w : List ℕ) (b d : Book) (r : List ℕ) : Type 0 where
  pub contents : Contents n w (pending_count d.slots) d.next d.tick d.slots r
  pub chained : Chained n w (chains_of b)
