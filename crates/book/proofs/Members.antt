-- The records that a chain is to hold, and that the chains of a book hold them: those of its side, or the vacant ones,
-- each once.
use Prim.Native.Nat.{ℕ, suc, ◌+◌, ◌-◌, ◌≤◌}
use native.Mathlib.Omega.{arith}
use mathlib.Core.Path.{◌≡◌, refl, sym}
use mathlib.Core.Logic.{◌≢◌}
use mathlib.Core.List.{List, [], ◌∷◌}
use lib.ListN.{length, get_or}
use Rattle.pricelevel.specs.declared.Side.{Side}
use Rattle.pricelevel.specs.declared.Side.TheVariants.{Buy, Sell}
use Rattle.book.proofs.FreeChain.{VacantFrom, free_all_vacant, free_distinct}
use Rattle.book.proofs.Lists.{all_map, all_mapped}
use Rattle.book.proofs.Lookup.{Gathered, gather_gathered, gather_all, pending_on_held, held-pending_on}
use Rattle.book.proofs.Sort.{Pairwise, Distinct, sort_by_all, sort_by_pairwise}
use Rattle.book.specs.Book.{Slot, vacant, held, Book, Chain, chain_side, Pending, side_of, with_index, gather, of_side, pending_on, chain, indices, earlier_in}
use Rattle.book.specs.Chains.{StoreChain, Ordered, Free, Member, chains_of}
use Rattle.book.specs.Lists.{All}
use Rattle.book.specs.Valid.{Valid}
use Rattle.book.specs.Words.{chain_indices}
use Rattle.book.specs.declared.StopEntry.{StopEntry}
use Rattle.std.specs.Prelude.{None, Option, Some}

-- record i is one that a chain is to hold
abbrev pub Belongs : StoreChain → List Slot → ℕ → Type 0
Belongs (Ordered c) ss i = Member (chain_side c) ss i
Belongs Free ss i = VacantFrom 1 ss i

------------------------------------------------------------------------
-- The stops of a side

pending_on_side : (side : Side) (t : StopEntry) → pending_on side (held t) ≡ Some t → side ≡ side_of t
unfolding pending_on of_side
pending_on_side side t e = go side (side_of t) e
  where
    go : (a b : Side) → of_side a b t ≡ Some t → a ≡ b
    go Sell Sell e = refl
    go Sell Buy e = let z : ◌≡◌ {A = ℕ} 0 1 = cc in absurd (omega arith)
    go Buy Sell e = let z : ◌≡◌ {A = ℕ} 0 1 = cc in absurd (omega arith)
    go Buy Buy e = refl

pub gathered_held : (side : Side) (ss : List Slot) (p : Pending) → Gathered (pending_on side) 1 ss p
    → get_or ss (p.index - 1) vacant ≡ held p.entry
gathered_held side ss p g = pending_on_held side (get_or ss (p.index - 1) vacant) p.entry g.chosen

gathered_member : (side : Side) (ss : List Slot) (p : Pending) → Gathered (pending_on side) 1 ss p
    → Member side ss p.index
gathered_member side ss p g =
    let there = gathered_held side ss p g in
    record {
      from = g.from;
      to = omega (arith, g.to);
      entry = p.entry;
      there = there;
      is_of_side = pending_on_side side p.entry (rw there at g.chosen);
    }

abbrev IndexOf : (ℕ → Type 0) → Pending → Type 0
IndexOf P p = P p.index

gather_members : (side : Side) (ss : List Slot) → All (IndexOf (Member side ss)) (gather (pending_on side) 1 ss)
gather_members side ss =
    all_map (gathered_member side ss) (gather (pending_on side) 1 ss) (gather_gathered (pending_on side) 1 ss)

-- their indices, from i on
unfoldable pub members : Side → ℕ → List Slot → List ℕ
members side i ss = indices (gather (pending_on side) i ss)

pub all-indices : (P : ℕ → Type 0) (l : List Pending) → All (IndexOf P) l → All P (indices l)
unfolding indices
all-indices P l h = all_mapped (IndexOf P) P (λ p. p.index) (λ p m. m) l h

indices_all : (P : ℕ → Type 0) (l : List Pending) → All P (indices l) → All (IndexOf P) l
unfolding indices
indices_all P [] h = h
indices_all P (p ∷ l) h = (h.0, indices_all P l h.1)

pub members_held : (side : Side) (ss : List Slot) → All (Member side ss) (members side 1 ss)
unfolding members
members_held side ss = all-indices (Member side ss) (gather (pending_on side) 1 ss) (gather_members side ss)

-- what holds of every member holds of a record that holds a stop of the side
pub held_member : (P : ℕ → Type 0) (side : Side) (ss : List Slot) → All P (members side 1 ss) → (i : ℕ)
    → Member side ss i → P i
unfolding members
held_member P side ss h i m =
    let e : 1 + (i - 1) ≡ i = omega (arith, m.from) in
    rw e at
    (gather_all (pending_on side) (IndexOf P) 1 ss (indices_all P (gather (pending_on side) 1 ss) h) (i - 1) m.entry
    (omega (arith, m.from, m.to)) (rw m.there (held-pending_on side m.entry m.is_of_side)))

------------------------------------------------------------------------
-- No record is gathered twice

abbrev pub Other : Pending → Pending → Type 0
Other p q = p.index ≢ q.index

pub gather-other : (choice : Slot → Option StopEntry) (i : ℕ) (ss : List Slot) → Pairwise Other (gather choice i ss)
unfolding gather with_index
gather-other choice i [] = tt
gather-other choice i (s ∷ ss) =
    go (choice s)
    (all_map {P = Gathered choice (suc i) ss} {Q = λ q. i ≢ q.index} (λ q h. omega (arith, h.from))
    (gather choice (suc i) ss) (gather_gathered choice (suc i) ss))
    (gather-other choice (suc i) ss)
  where
    go : (o : Option StopEntry) → All (λ q. i ≢ q.index) (gather choice (suc i) ss)
        → Pairwise Other (gather choice (suc i) ss)
        → Pairwise Other (with_index i o (gather choice (suc i) ss))
    go None a rest = rest
    go (Some t) a rest = (a, rest)

indices_distinct : (l : List Pending) → Pairwise Other l → Distinct (indices l)
unfolding indices
indices_distinct [] h = h
indices_distinct (p ∷ l) h = (all-indices (λ j. p.index ≢ j) l h.0, indices_distinct l h.1)

pub members_distinct : (side : Side) (i : ℕ) (ss : List Slot) → Distinct (members side i ss)
unfolding members
members_distinct side i ss = indices_distinct (gather (pending_on side) i ss) (gather-other (pending_on side) i ss)

------------------------------------------------------------------------
-- The chains of a book

pub chain_indices_members : (c : Chain) (b : Book) → All (Member (chain_side c) b.slots) (chain_indices c b)
unfolding chain_indices chain
chain_indices_members c b =
    all-indices (Member (chain_side c) b.slots) (chain c b.slots)
    (sort_by_all (earlier_in c) (IndexOf (Member (chain_side c) b.slots))
    (gather (pending_on (chain_side c)) 1 b.slots)
    (gather_members (chain_side c) b.slots))

pub chain_indices_distinct : (c : Chain) (b : Book) → Distinct (chain_indices c b)
unfolding chain_indices chain
chain_indices_distinct c b =
    indices_distinct (chain c b.slots)
    (sort_by_pairwise (earlier_in c) Other (λ p q h e. h (sym e)) (gather (pending_on (chain_side c)) 1 b.slots)
    (gather-other (pending_on (chain_side c)) 1 b.slots))

-- of all five
pub chains_of_belong : (b : Book) → Valid b → (a : StoreChain) → All (Belongs a b.slots) (chains_of b a)
chains_of_belong b v (Ordered c) = chain_indices_members c b
chains_of_belong b v Free = free_all_vacant b v

pub chains_of_distinct : (b : Book) → Valid b → (a : StoreChain) → Distinct (chains_of b a)
chains_of_distinct b v (Ordered c) = chain_indices_distinct c b
chains_of_distinct b v Free = free_distinct b v

pub belongs_range : (a : StoreChain) (ss : List Slot) (i : ℕ) → Belongs a ss i → (1 ≤ i) × (i ≤ length ss)
belongs_range (Ordered c) ss i h = (h.from, h.to)
belongs_range Free ss i h = (h.low, omega (arith, h.high))
