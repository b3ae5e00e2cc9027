-- A book without its holders: the orders of the chains do not look at them, and so neither do the chains, the count of
-- the pending and the search for an identity. Document 02, One.
use Prim.Native.Nat.{ℕ, suc}
use mathlib.Core.Path.{◌≡◌, refl, sym, ap}
use mathlib.Core.List.{List, [], ◌∷◌, ◌++◌, map, map-append, map-map}
use borrow.Table.Steps.{cases}
use Rattle.pricelevel.specs.Holder.{holder_of}
use Rattle.pricelevel.specs.Identity.{same_id}
use Rattle.pricelevel.specs.declared.Id.{Id}
use Rattle.pricelevel.specs.declared.Side.{Side}
use Rattle.pricelevel.specs.declared.Side.TheVariants.{Buy, Sell}
use Rattle.book.proofs.Lists.{all_of}
use Rattle.book.proofs.Sort.{map-sort_by}
use Rattle.book.specs.Book.{Slot, vacant, held, Book, Chain, ByStop, ByWatermark, chain_side, side_of, before, Pending, with_index, gather, earlier_in, sort, of_side, pending_on, chain, indices, pending_count}
use Rattle.book.specs.Store.{named, lookup, is_pending}
use Rattle.book.specs.Words.{chain_indices}
use Rattle.book.specs.declared.StopEntry.{StopEntry}
use Rattle.std.specs.Prelude.{None, Option, Some, option_map, is_some}

-- all but the holder of a stop, of a record, of a pending stop, of a book
abbrev pub holderless : StopEntry → StopEntry
holderless t = record { id = t.id; terms = t.terms; quantity = t.quantity; seq = t.seq; holder = holder_of 0 0 0 0 }

abbrev pub holderless_slot : Slot → Slot
holderless_slot vacant = vacant
holderless_slot (held t) = held (holderless t)

abbrev pub holderless_pending : Pending → Pending
holderless_pending p = record { index = p.index; entry = holderless p.entry }

abbrev pub holderless_book : Book → Book
holderless_book b = record { next = b.next; tick = b.tick; slots = map holderless_slot b.slots; free = b.free }

------------------------------------------------------------------------
-- Chosen stops, in the order of a chain

before_holderless : (c : Chain) (x y : StopEntry) → before c (holderless x) (holderless y) ≡ before c x y
unfolding before
before_holderless (ByStop Sell) x y = refl
before_holderless (ByStop Buy) x y = refl
before_holderless (ByWatermark Sell) x y = refl
before_holderless (ByWatermark Buy) x y = refl

-- a choice of stops that goes by all but the holder
abbrev pub Blind : (Slot → Option StopEntry) → Type 0
Blind choice = (s : Slot) → choice (holderless_slot s) ≡ option_map holderless (choice s)

with_index_holderless : (i : ℕ) (x : Option StopEntry) (l : List Pending)
    → with_index i (option_map holderless x) (map holderless_pending l) ≡ map holderless_pending (with_index i x l)
unfolding with_index
with_index_holderless i None l = refl
with_index_holderless i (Some t) l = refl

module _ (choice : Slot → Option StopEntry) (blind : Blind choice) where
  gather_holderless : (i : ℕ) (ss : List Slot)
      → gather choice i (map holderless_slot ss) ≡ map holderless_pending (gather choice i ss)
  unfolding gather
  gather_holderless i [] = refl
  gather_holderless i (s ∷ ss) =
      rw (blind s, gather_holderless (suc i) ss) (with_index_holderless i (choice s) (gather choice (suc i) ss))

  pub sort_holderless : (c : Chain) (ss : List Slot)
      → sort c (gather choice 1 (map holderless_slot ss)) ≡ map holderless_pending (sort c (gather choice 1 ss))
  sort_holderless c ss =
      rw (gather_holderless 1 ss)
      (sym (map-sort_by (λ p. Unit {0}) holderless_pending (earlier_in c) (earlier_in c)
      (λ p q _ _. sym (before_holderless c p.entry q.entry)) (gather choice 1 ss)
      (all_of (λ p. tt) (gather choice 1 ss))))

pub of_side_holderless : (d e : Side) (t : StopEntry) → of_side d e (holderless t) ≡ option_map holderless (of_side d e t)
unfolding of_side
of_side_holderless Sell Sell t = refl
of_side_holderless Sell Buy t = refl
of_side_holderless Buy Sell t = refl
of_side_holderless Buy Buy t = refl

------------------------------------------------------------------------
-- Chains, count and lookup

pending_on_blind : (d : Side) → Blind (pending_on d)
unfolding pending_on
pending_on_blind d vacant = refl
pending_on_blind d (held t) = of_side_holderless d (side_of t) t

chain_holderless : (c : Chain) (ss : List Slot) → chain c (map holderless_slot ss) ≡ map holderless_pending (chain c ss)
unfolding chain
chain_holderless c ss = sort_holderless (pending_on (chain_side c)) (pending_on_blind (chain_side c)) c ss

pub chain_indices_holderless : (c : Chain) (b : Book) → chain_indices c (holderless_book b) ≡ chain_indices c b
unfolding chain_indices indices
chain_indices_holderless c b =
    rw (chain_holderless c b.slots) (map-map (λ p. p.index) holderless_pending (chain c b.slots))

pub pending_count_holderless : (ss : List Slot) → pending_count (map holderless_slot ss) ≡ pending_count ss
unfolding pending_count
pending_count_holderless [] = refl
pending_count_holderless (vacant ∷ ss) = pending_count_holderless ss
pending_count_holderless (held t ∷ ss) = ap suc (pending_count_holderless ss)

named_holderless : (id : Id) (l : List Pending) → is_some (named id (map holderless_pending l)) ≡ is_some (named id l)
unfolding named
named_holderless id [] = refl
named_holderless id (p ∷ l) = cases (same_id id p.entry.id) (λ e. rw e) (λ e. rw e (named_holderless id l))

pub is_pending_holderless : (id : Id) (b : Book) → is_pending id (holderless_book b) ≡ is_pending id b
unfolding is_pending lookup
is_pending_holderless id b =
    let sells = chain (ByStop Sell) b.slots in
    let buys = chain (ByStop Buy) b.slots in
    rw (
      chain_holderless (ByStop Sell) b.slots,
      chain_holderless (ByStop Buy) b.slots,
      ← map-append holderless_pending sells buys,
    )
    (named_holderless id (sells ++ buys))
