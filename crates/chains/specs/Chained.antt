-- The five chains of a store together, at any lists of records and over any data, and what an operation on links keeps:
-- document 01, The store.
use Rattle.std.specs.Prelude.{ℕ, ◌≤◌, ◌<◌, ◌≡◌, ◌≢◌, cond, List, T, eqb, length, get_or, drop}
use Rattle.pricelevel.specs.declared.Side.{Side}
use Rattle.book.specs.Words.{record_word}
use Rattle.book.specs.Sizes.{store_length, next_by_watermark, IsData}
use Rattle.book.specs.declared.Chain.TheVariants.{ByStop, ByWatermark}
use Rattle.chains.specs.Indices.{insert_ranked, remove, has}
use Rattle.chains.specs.Links.{Linked}
use Rattle.book.specs.Chains.{start_of, next_of, group_of}
use Rattle.book.specs.declared.StoreChain.{StoreChain}
use Rattle.book.specs.declared.StoreChain.TheVariants.{Ordered, Free}
use Rattle.chains.specs.Rank.{rank_at}
use Rattle.chains.specs.Records.{Room}

-- next by watermark of a free record is 0
pub record Chained (n : ℕ) (w : List ℕ) (ch : StoreChain → List ℕ) : Type 0 where
  pub inside : Room n w
  pub linked : (a : StoreChain) → Linked n w (next_of a) (start_of a) (ch a)
  pub apart : (a b : StoreChain) → group_of a ≢ group_of b → (i : ℕ) → T (has i (ch a)) → T (has i (ch b)) → ⊥
  pub blank : (i : ℕ) → T (has i (ch Free)) → record_word w i next_by_watermark ≡ 0

-- v is w but for heads and links: the first four header words, the data words of records and the words behind the store
-- are those of w
pub record Kept (n : ℕ) (w v : List ℕ) : Type 0 where
  pub size : length v ≡ length w
  pub header : (k : ℕ) → k < 4 → get_or v k 0 ≡ get_or w k 0
  pub words : (i k : ℕ) → 1 ≤ i → IsData k → record_word v i k ≡ record_word w i k
  pub beyond : drop (store_length n) v ≡ drop (store_length n) w

-- the chains, with l for that of a
unfoldable pub upd : StoreChain → List ℕ → (StoreChain → List ℕ) → StoreChain → List ℕ
upd a l ch b = cond (eqb (start_of a) (start_of b)) l (ch b)

------------------------------------------------------------------------
-- Where a record is

-- in no chain of another group than a's, nor in a
pub record Outside (n : ℕ) (ch : StoreChain → List ℕ) (a : StoreChain) (i : ℕ) : Type 0 where
  pub least : 1 ≤ i
  pub most : i ≤ n
  pub other : (b : StoreChain) → group_of a ≢ group_of b → T (has i (ch b)) → ⊥
  pub own : T (has i (ch a)) → ⊥

-- in the two chains of a side
pub record On (n : ℕ) (w : List ℕ) (ch : StoreChain → List ℕ) (side : Side) (i : ℕ) : Type 0 where
  pub chained : Chained n w ch
  pub stops : T (has i (ch (Ordered (ByStop side))))
  pub watermarks : T (has i (ch (Ordered (ByWatermark side))))

-- in no chain
pub record Ready (n : ℕ) (w : List ℕ) (ch : StoreChain → List ℕ) (i : ℕ) : Type 0 where
  pub chained : Chained n w ch
  pub least : 1 ≤ i
  pub most : i ≤ n
  pub out : (a : StoreChain) → T (has i (ch a)) → ⊥

-- the chains, with i taken out of the two of a side
abbrev pub without : Side → ℕ → (StoreChain → List ℕ) → StoreChain → List ℕ
without side i ch =
    upd (Ordered (ByWatermark side)) (remove i (ch (Ordered (ByWatermark side))))
    (upd (Ordered (ByStop side)) (remove i (ch (Ordered (ByStop side)))) ch)

-- the chains, with i put into the two of a side, by the ranks that the words give
abbrev pub within : Side → List ℕ → ℕ → (StoreChain → List ℕ) → StoreChain → List ℕ
within side w i ch =
    upd (Ordered (ByWatermark side)) (insert_ranked (rank_at (ByWatermark side) w) i (ch (Ordered (ByWatermark side))))
    (upd (Ordered (ByStop side)) (insert_ranked (rank_at (ByStop side) w) i (ch (Ordered (ByStop side)))) ch)
