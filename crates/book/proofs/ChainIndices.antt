-- The indices that chains hold are those of records, and so are heads and links, or 0.
use Prim.Native.Nat.{ℕ, ◌≤◌}
use mathlib.Core.Bool.{Bool, true, false, cond}
use mathlib.Core.List.{List, [], ◌∷◌}
use lib.Dec.{eqb}
use lib.ListN.{length}
use Rattle.book.proofs.Lists.{all_mapped}
use Rattle.book.proofs.Lookup.{InBook, chain_in_book}
use Rattle.book.specs.Book.{Book, Chain, chain, indices}
use Rattle.book.specs.Lists.{head_or0, All}
use Rattle.book.specs.Words.{next_in, chain_indices}

-- heads and links
module _ (P : ℕ → Type 0) where
  pub head_or0_all : (l : List ℕ) → P 0 → All P l → P (head_or0 l)
  unfolding head_or0
  head_or0_all [] z h = z
  head_or0_all (i ∷ l) z h = h.0

  pub next_in_all : (l : List ℕ) (i : ℕ) → P 0 → All P l → P (next_in l i)
  unfolding next_in
  next_in_all [] i z h = z
  next_in_all (j ∷ l) i z h = go (eqb i j) (next_in_all l i z h.1)
    where
      go : (t : Bool) → P (next_in l i) → P (cond t (head_or0 l) (next_in l i))
      go true rest = head_or0_all l z h.1
      go false rest = rest

pub chain_indices_range : (c : Chain) (b : Book) → All (λ i. i ≤ length b.slots) (chain_indices c b)
unfolding chain_indices indices
chain_indices_range c b =
    all_mapped (InBook b.slots) (λ i. i ≤ length b.slots) (λ p. p.index) (λ p h. h.to) (chain c b.slots)
    (chain_in_book c b.slots)
