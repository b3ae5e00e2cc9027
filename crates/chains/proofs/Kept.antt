-- Laws of what operations on links keep.
use Prim.Native.Nat.{ℕ, ◌≤◌, ◌<◌}
use mathlib.Core.Path.{◌≡◌, ap, ◌∙◌}
use mathlib.Core.Logic.{◌≢◌}
use mathlib.Core.List.{List}
use native.Mathlib.Omega.{arith}
use lib.ListN.{set, length-set}
use lib.Seq.{get_or-set_other, drop-set-lt}
use Rattle.book.specs.Words.{cell, record_word, entry_at}
use Rattle.book.specs.Sizes.{store_length, IsData}
use Rattle.book.specs.declared.Chain.{Chain}
use Rattle.chains.proofs.Cells.{cell_least, cell_below, cell_injective}
use Rattle.chains.proofs.Names.{name_stands}
use Rattle.chains.specs.Chained.{Kept}
use Rattle.book.specs.Chains.{start_of, next_of}
use Rattle.book.specs.declared.StoreChain.{StoreChain}
use Rattle.chains.specs.Rank.{rank, rank_at}

pub kept_trans : {n : ℕ} {w v u : List ℕ} → Kept n w v → Kept n v u → Kept n w u
kept_trans a b = record {
  size = b.size ∙ a.size;
  header = λ k h. b.header k h ∙ a.header k h;
  words = λ i k low h. b.words i k low h ∙ a.words i k low h;
  beyond = b.beyond ∙ a.beyond;
}

------------------------------------------------------------------------
-- Stores

-- q is the place of a head, or of a link of one of the n records
pub record IsLink (n q : ℕ) : Type 0 where
  pub low : 4 ≤ q
  pub below : q < store_length n
  pub no_data : (i k : ℕ) → 1 ≤ i → IsData k → cell i k ≢ q

pub is_link_head : (n : ℕ) (a : StoreChain) → IsLink n (start_of a)
is_link_head n a =
    let s = name_stands a in
    record {
      low = s.low;
      below = omega (arith, s.high);
      no_data = λ i k low h e. omega (arith, s.high, cell_least i k);
    }

pub is_link-cell : (n : ℕ) (a : StoreChain) (j : ℕ) → 1 ≤ j → j ≤ n → IsLink n (cell j (next_of a))
is_link-cell n a j least most =
    let s = name_stands a in
    record {
      low = omega (arith, cell_least j (next_of a));
      below = cell_below n j (next_of a) least most s.in_record;
      no_data = λ i k low h e. s.no_data h (cell_injective i j k (next_of a) low least h.inside s.in_record e).1;
    }

pub kept_set : (n : ℕ) (w : List ℕ) (q v : ℕ) → IsLink n q → Kept n w (set w q v)
unfolding record_word
kept_set n w q v l = record {
  size = length-set w q v;
  header = λ k h. get_or-set_other w q k v 0 (λ e. omega (arith, l.low));
  words = λ i k low h. get_or-set_other w q (cell i k) v 0 (l.no_data i k low h);
  beyond = drop-set-lt (store_length n) w q v l.below;
}

------------------------------------------------------------------------
-- What is read

pub kept_entry : (n : ℕ) (w v : List ℕ) → Kept n w v → (i : ℕ) → 1 ≤ i → entry_at v i ≡ entry_at w i
unfolding entry_at
kept_entry n w v k i low =
    let same : (m : ℕ) → IsData m → record_word v i m ≡ record_word w i m = λ m h. k.words i m low h in
    rw (
      same 0 (omega arith),
      same 1 (omega arith),
      same 2 (omega arith),
      same 3 (omega arith),
      same 4 (omega arith),
      same 5 (omega arith),
      same 6 (omega arith),
      same 7 (omega arith),
      same 8 (omega arith),
      same 11 (omega arith),
      same 12 (omega arith),
      same 13 (omega arith),
      same 14 (omega arith),
    )

pub kept-rank : (n : ℕ) (w v : List ℕ) → Kept n w v → (c : Chain) (i : ℕ) → 1 ≤ i → rank_at c v i ≡ rank_at c w i
unfolding rank_at
kept-rank n w v k c i low = ap (rank c) (kept_entry n w v k i low)
