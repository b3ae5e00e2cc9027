-- What a search by identity finds: the chains hold the pending stops with the indices of their records.
use Prim.Native.Nat.{ℕ, zero, suc, ◌+◌, ◌-◌, ◌≤◌, ◌<◌}
use native.Mathlib.Omega.{arith}
use native.Mathlib.Nat.{add-zero, add-suc, suc-add, sub_self}
use mathlib.Core.Path.{◌≡◌, refl, ap}
use mathlib.Core.Bool.{true, false}
use mathlib.Core.List.{List, [], ◌∷◌, ◌++◌}
use borrow.Table.Steps.{cases}
use lib.ListN.{length, get_or}
use Rattle.pricelevel.specs.Identity.{same_id}
use Rattle.pricelevel.specs.declared.Id.{Id}
use Rattle.pricelevel.specs.declared.Side.{Side}
use Rattle.pricelevel.specs.declared.Side.TheVariants.{Buy, Sell}
use Rattle.book.proofs.Sort.{sort_by_all, sort_by_parts}
use Rattle.book.proofs.Lists.{all_map, all_append, all_append_parts, get_d_all}
use Rattle.book.specs.Book.{Slot, vacant, held, Book, Chain, ByStop, chain_side, Pending, side_of, with_index, gather, of_side, pending_on, chain, earlier_in}
use Rattle.book.specs.Store.{named, lookup, is_pending}
use Rattle.book.specs.declared.StopEntry.{StopEntry}
use Rattle.book.specs.Lists.{All}
use Rattle.std.specs.Prelude.{None, Option, Some, is_some}

------------------------------------------------------------------------
-- What is gathered comes from the records

-- p is what a choice takes from its record, of the records from index i on
pub record Gathered (choice : Slot → Option StopEntry) (i : ℕ) (ss : List Slot) (p : Pending) : Type 0 where
  pub from : i ≤ p.index
  pub to : p.index < i + length ss
  pub chosen : choice (get_or ss (p.index - i) vacant) ≡ Some p.entry

module _ (choice : Slot → Option StopEntry) where
  gathered_later : (i : ℕ) (s : Slot) (ss : List Slot) (p : Pending) → Gathered choice (suc i) ss p
      → Gathered choice i (s ∷ ss) p
  gathered_later i s ss p g =
      let e : p.index - i ≡ suc (p.index - suc i) = omega (arith, g.from) in
      record { from = omega (arith, g.from); to = omega (arith, g.to); chosen = rw e g.chosen }

  pub gather_gathered : (i : ℕ) (ss : List Slot) → All (Gathered choice i ss) (gather choice i ss)
  unfolding gather with_index
  gather_gathered i [] = tt
  gather_gathered i (s ∷ ss) =
      go (choice s) refl (all_map (gathered_later i s ss) (gather choice (suc i) ss) (gather_gathered (suc i) ss))
    where
      go : (o : Option StopEntry) → choice s ≡ o → All (Gathered choice i (s ∷ ss)) (gather choice (suc i) ss)
          → All (Gathered choice i (s ∷ ss)) (with_index i o (gather choice (suc i) ss))
      go None e h = h
      go (Some t) e h = (record { from = omega arith; to = omega arith; chosen = rw (sub_self i) e }, h)

  -- and all that the choice takes is gathered
  pub gather_all : (P : Pending → Type 0) (i : ℕ) (ss : List Slot) → All P (gather choice i ss)
      → (k : ℕ) (t : StopEntry) → k < length ss → choice (get_or ss k vacant) ≡ Some t → P (record {
        index = i + k;
        entry = t;
      })
  unfolding gather with_index
  gather_all P i [] h k t l e = absurd (omega arith)
  gather_all P i (s ∷ ss) h zero t l e = rw add-zero (go (choice s) e h)
    where
      go : (o : Option StopEntry) → o ≡ Some t → All P (with_index i o (gather choice (suc i) ss)) → P (record {
        index = i;
        entry = t;
      })
      go None e h = let z : ◌≡◌ {A = ℕ} 0 1 = cc in absurd (omega arith)
      go (Some u) e h = let q : u ≡ t = cc in rw q at h.0
  gather_all P i (s ∷ ss) h (suc k) t l e =
      rw (add-suc i k, ← suc-add i k) (gather_all P (suc i) ss (go (choice s) h) k t (omega arith) e)
    where
      go : (o : Option StopEntry) → All P (with_index i o (gather choice (suc i) ss)) → All P (gather choice (suc i) ss)
      go None h = h
      go (Some u) h = h.1

------------------------------------------------------------------------
-- A chain holds the pending stops of its side

pub of_side_some : (d s : Side) (t u : StopEntry) → of_side d s t ≡ Some u → t ≡ u
unfolding of_side
of_side_some Sell Sell t u e = cc
of_side_some Sell Buy t u e = let z : ◌≡◌ {A = ℕ} 0 1 = cc in absurd (omega arith)
of_side_some Buy Sell t u e = let z : ◌≡◌ {A = ℕ} 0 1 = cc in absurd (omega arith)
of_side_some Buy Buy t u e = cc

pub pending_on_held : (side : Side) (s : Slot) (t : StopEntry) → pending_on side s ≡ Some t → s ≡ held t
unfolding pending_on
pending_on_held side vacant t e = let z : ◌≡◌ {A = ℕ} 0 1 = cc in absurd (omega arith)
pending_on_held side (held u) t e = ap held (of_side_some side (side_of u) u t e)

pub held-pending_on : (side : Side) (t : StopEntry) → side ≡ side_of t → pending_on side (held t) ≡ Some t
unfolding pending_on of_side
held-pending_on Sell t e = rw (← e)
held-pending_on Buy t e = rw (← e)

-- record p .index holds the stop
pub record InBook (ss : List Slot) (p : Pending) : Type 0 where
  pub from : 1 ≤ p.index
  pub to : p.index ≤ length ss
  pub there : get_or ss (p.index - 1) vacant ≡ held p.entry

pub chain_in_book : (c : Chain) (ss : List Slot) → All (InBook ss) (chain c ss)
unfolding chain
chain_in_book c ss =
    sort_by_all (earlier_in c) (InBook ss) (gather (pending_on (chain_side c)) 1 ss)
    (all_map in_book (gather (pending_on (chain_side c)) 1 ss) (gather_gathered (pending_on (chain_side c)) 1 ss))
  where
    in_book : (p : Pending) → Gathered (pending_on (chain_side c)) 1 ss p → InBook ss p
    in_book p g = record {
      from = g.from;
      to = omega (arith, g.to);
      there = pending_on_held (chain_side c) (get_or ss (p.index - 1) vacant) p.entry g.chosen;
    }

pub chain_all : (P : Pending → Type 0) (c : Chain) (ss : List Slot) → All P (chain c ss)
    → (k : ℕ) (t : StopEntry) → k < length ss → get_or ss k vacant ≡ held t → chain_side c ≡ side_of t → P (record {
      index = 1 + k;
      entry = t;
    })
unfolding chain
chain_all P c ss h k t l e q =
    gather_all (pending_on (chain_side c)) P 1 ss
    (sort_by_parts (earlier_in c) P (gather (pending_on (chain_side c)) 1 ss) h) k t l
    (rw e (held-pending_on (chain_side c) t q))

------------------------------------------------------------------------
-- The search

pub named_found : (P : Pending → Type 0) (id : Id) (l : List Pending) (p : Pending) → All P l → named id l ≡ Some p
    → P p × (same_id id p.entry.id ≡ true)
unfolding named
named_found P id [] p h e = let z : ◌≡◌ {A = ℕ} 0 1 = cc in absurd (omega arith)
named_found P id (q ∷ l) p h e = cases (same_id id q.entry.id)
    (λ f. let g : Some q ≡ Some p = rw f at e in let r : q ≡ p = cc in (rw r at h.0, rw r at f))
    (λ f. named_found P id l p h.1 (rw f at e))

pub named_none : (id : Id) (l : List Pending) → named id l ≡ None → All (λ p. same_id id p.entry.id ≡ false) l
unfolding named
named_none id [] e = tt
named_none id (q ∷ l) e = cases (same_id id q.entry.id)
    (λ f. let g : Some q ≡ None = rw f at e in let z : ◌≡◌ {A = ℕ} 0 1 = cc in absurd (omega arith))
    (λ f. (f, named_none id l (rw f at e)))

pub lookup_found : (id : Id) (b : Book) (p : Pending) → lookup id b ≡ Some p
    → InBook b.slots p × (same_id id p.entry.id ≡ true)
unfolding lookup
lookup_found id b p e =
    named_found (InBook b.slots) id (chain (ByStop Sell) b.slots ++ chain (ByStop Buy) b.slots) p
    (all_append (InBook b.slots) (chain (ByStop Sell) b.slots) (chain (ByStop Buy) b.slots)
    (chain_in_book (ByStop Sell) b.slots) (chain_in_book (ByStop Buy) b.slots)) e

-- a record that does not hold a stop of this identity
abbrev pub Unnamed : Id → Slot → Type 0
Unnamed id vacant = Unit {0}
Unnamed id (held t) = same_id id t.id ≡ false

pub lookup_none : (id : Id) (b : Book) → lookup id b ≡ None → All (Unnamed id) b.slots
unfolding lookup
lookup_none id b e = get_d_all (Unnamed id) b.slots vacant (λ k h. go k h (get_or b.slots k vacant) refl)
  where
    Other : Pending → Type 0
    Other p = same_id id p.entry.id ≡ false

    apart : All Other (chain (ByStop Sell) b.slots) × All Other (chain (ByStop Buy) b.slots)
    apart = all_append_parts Other (chain (ByStop Sell) b.slots) (chain (ByStop Buy) b.slots) (named_none id _ e)

    go : (k : ℕ) → k < length b.slots → (s : Slot) → get_or b.slots k vacant ≡ s → Unnamed id s
    go k h vacant q = tt
    go k h (held t) q = side (side_of t) refl
      where
        side : (d : Side) → d ≡ side_of t → same_id id t.id ≡ false
        side Sell f = chain_all Other (ByStop Sell) b.slots apart.0 k t h q f
        side Buy f = chain_all Other (ByStop Buy) b.slots apart.1 k t h q f

pub is_pending_none : (id : Id) (b : Book) → is_pending id b ≡ false → lookup id b ≡ None
unfolding is_pending
is_pending_none id b e = go (lookup id b) e
  where
    go : (o : Option Pending) → is_some o ≡ false → o ≡ None
    go None e = refl
    go (Some p) e = let z : ◌≡◌ {A = ℕ} 0 1 = cc in absurd (omega arith)
