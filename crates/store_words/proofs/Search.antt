-- The search for an identity along a chain, link by link, and along the two stop chains of a book.
use Prim.Native.Nat.{ℕ, ◌+◌, ◌-◌, ◌≤◌, ◌<◌}
use mathlib.Core.Path.{◌≡◌, refl, sym, ◌∙◌}
use mathlib.Core.Bool.{Bool, true, false, cond}
use mathlib.Core.List.{List, [], ◌∷◌, ◌++◌}
use native.Mathlib.Omega.{arith}
use borrow.Author.Tests.{eq-eqb, ne_eqb}
use borrow.Table.Steps.{cases}
use lib.Dec.{eqb}
use lib.ListN.{length, get_or}
use Rattle.pricelevel.specs.Identity.{same_id}
use Rattle.pricelevel.specs.declared.Id.{Id}
use Rattle.pricelevel.specs.declared.Side.{Side}
use Rattle.pricelevel.specs.declared.Side.TheVariants.{Buy, Sell}
use Rattle.book.proofs.Lists.{all_map}
use Rattle.book.specs.Lists.{All}
use Rattle.book.proofs.Lookup.{InBook, chain_in_book}
use Rattle.book.proofs.ReadBack.{slots_at_length}
use Rattle.book.specs.Book.{Pending, chain, indices}
use Rattle.book.specs.Store.{named, lookup}
use Rattle.book.specs.Words.{chain_indices, entry_at, book_of, well_formed}
use Rattle.book.specs.declared.Chain.{Chain}
use Rattle.book.specs.declared.Chain.TheVariants.{ByStop}
use Rattle.book.specs.declared.StoreChain.TheVariants.{Ordered}
use Rattle.chains.specs.Links.{Linked}
use Rattle.chains.specs.Records.{Room}
use Rattle.chains.proofs.OneChain.{linked_length}
use Rattle.book.specs.Chains.{head_of}
use Rattle.store_words.specs.Search.{first_named, index_or0}
use Rattle.book.specs.Sizes.{next_by_stop, store_length}
use Rattle.store_words.proofs.ChainsOf.{well_formed_room, well_formed_linked}
use Rattle.book.proofs.Slots.{slot_at_entry, slots_at_at}
use Rattle.std.specs.Prelude.{Some}

------------------------------------------------------------------------
-- One link

pub first_named_end : (n : ℕ) (w : List ℕ) (k p : ℕ) (id : Id) (l : List ℕ) → get_or w p 0 ≡ 0 → Linked n w k p l
    → first_named w id l ≡ 0
unfolding first_named
first_named_end n w k p id [] e h = refl
first_named_end n w k p id (j ∷ l) e h = absurd (omega (arith, h.0, h.1))

pub first_named_here : (w : List ℕ) (id : Id) (i : ℕ) (l : List ℕ) → same_id id (entry_at w i).id ≡ true
    → first_named w id (i ∷ l) ≡ i
unfolding first_named
first_named_here w id i l e = rw e

pub first_named_later : (w : List ℕ) (id : Id) (i : ℕ) (l : List ℕ) → same_id id (entry_at w i).id ≡ false
    → first_named w id (i ∷ l) ≡ first_named w id l
unfolding first_named
first_named_later w id i l e = rw e

------------------------------------------------------------------------
-- The stops of a chain are those of their records

-- record p .index of the words holds the stop
abbrev AtRecord : List ℕ → Pending → Type 0
AtRecord w p = (1 ≤ p.index) × (entry_at w p.index ≡ p.entry)

chain_at_records : (c : Chain) (w : List ℕ) → All (AtRecord w) (chain c (book_of w).slots)
unfolding book_of
chain_at_records c w = all_map at (chain c (book_of w).slots) (chain_in_book c (book_of w).slots)
  where
    at : (p : Pending) → InBook (book_of w).slots p → AtRecord w p
    at p h =
        let e : 1 + (p.index - 1) ≡ p.index = omega (arith, h.from) in
        let inside : p.index - 1 < get_or w 0 0 = omega (arith, h.from, h.to, slots_at_length w 1 (get_or w 0 0)) in (
          h.from,
          slot_at_entry w p.index p.entry
              (sym (rw e at (slots_at_at w 1 (get_or w 0 0) (p.index - 1) inside)) ∙ h.there),
        )

------------------------------------------------------------------------
-- Along both stop chains

module _ (w : List ℕ) (id : Id) where
  first_named-named : (l : List Pending) → All (AtRecord w) l → first_named w id (indices l) ≡ index_or0 (named id l)
  unfolding first_named index_or0 named indices
  first_named-named [] h = refl
  first_named-named (p ∷ l) h = rw h.0.1 (go (same_id id p.entry.id) (first_named-named l h.1))
    where
      go : (t : Bool) → first_named w id (indices l) ≡ index_or0 (named id l)
          → cond t p.index (first_named w id (indices l)) ≡ index_or0 (cond t (Some p) (named id l))
      go true e = refl
      go false e = e

  -- in one list, then in another
  named_append : (l m : List Pending) → All (AtRecord w) l
      → index_or0 (named id (l ++ m)) ≡ cond (eqb (index_or0 (named id l)) 0) (index_or0 (named id m))
      (index_or0 (named id l))
  unfolding index_or0 named
  named_append [] m h = refl
  named_append (p ∷ l) m h = cases (same_id id p.entry.id)
      (λ e. rw (e, ne_eqb p.index 0 (λ z. omega (arith, h.0.0))))
      (λ e. rw e (named_append l m h.1))

  abbrev in_chain : Chain → ℕ
  in_chain c = first_named w id (chain_indices c (book_of w))

  in_chain-named : (c : Chain) → in_chain c ≡ index_or0 (named id (chain c (book_of w).slots))
  unfolding chain_indices
  in_chain-named c = first_named-named (chain c (book_of w).slots) (chain_at_records c w)

  lookup_chains : index_or0 (lookup id (book_of w)) ≡ cond (eqb (in_chain (ByStop Sell)) 0) (in_chain (ByStop Buy))
      (in_chain (ByStop Sell))
  unfolding lookup
  lookup_chains =
      rw (in_chain-named (ByStop Sell), in_chain-named (ByStop Buy))
      (named_append (chain (ByStop Sell) (book_of w).slots) (chain (ByStop Buy) (book_of w).slots)
      (chain_at_records (ByStop Sell) w))

  pub lookup_sell : (first_named w id (chain_indices (ByStop Sell) (book_of w)) ≡ 0 → ⊥)
      → index_or0 (lookup id (book_of w)) ≡ first_named w id (chain_indices (ByStop Sell) (book_of w))
  lookup_sell n = lookup_chains ∙ rw (ne_eqb (in_chain (ByStop Sell)) 0 n)

  pub lookup_buy : first_named w id (chain_indices (ByStop Sell) (book_of w)) ≡ 0
      → index_or0 (lookup id (book_of w)) ≡ first_named w id (chain_indices (ByStop Buy) (book_of w))
  lookup_buy e = lookup_chains ∙ rw (eq-eqb (in_chain (ByStop Sell)) 0 e)

------------------------------------------------------------------------
-- In well-formed words

head_inside : (side : Side) (n m : ℕ) → store_length n ≤ m → head_of (ByStop side) < m
head_inside Sell n m h = omega arith
head_inside Buy n m h = omega arith

module _ (w : List ℕ) (e : well_formed w ≡ true) (n : ℕ) (q : n ≡ get_or w 0 0) where
  stop_linked : (side : Side) → Linked n w next_by_stop (head_of (ByStop side)) (chain_indices (ByStop side) (book_of w))
  stop_linked side = rw q (well_formed_linked w e (Ordered (ByStop side)))

  module _ (side : Side) (head : ℕ) (h : head ≡ head_of (ByStop side)) where
    pub stop_head : head < length w
    stop_head = rw h (head_inside side _ _ (well_formed_room w e).room)

    -- what the search asks of a side's stop chain
    pub stop_search : Room n w
        × ((p : ℕ) × (l : List ℕ) × (get_or w p 0 ≡ get_or w head 0) × Linked n w next_by_stop p l × (length l ≤ n))
    stop_search =
        let l = chain_indices (ByStop side) (book_of w) in
        let linked : Linked n w next_by_stop head l = rw h (stop_linked side) in
        (rw (← q) at (well_formed_room w e), (head, l, refl, linked, linked_length n next_by_stop w head l linked))

    -- what it finds there
    pub stop_found : (id : Id) (i : ℕ)
        → ((p : ℕ) (l : List ℕ) → get_or w p 0 ≡ get_or w head 0 → Linked n w next_by_stop p l → i ≡ first_named w id l)
        → i ≡ first_named w id (chain_indices (ByStop side) (book_of w))
    stop_found id i f = f head _ refl (rw h (stop_linked side))
