-- The sorting law: if each record gives up its stop early, late or never, and the early stops are before the late ones,
-- then the sorted whole is the sorted early stops and then the sorted late ones. It wants no other law of the order, so
-- no sorted list and no distinct keys.
use Prim.Native.Nat.{ℕ, suc}
use mathlib.Core.Path.{◌≡◌, refl}
use mathlib.Core.Bool.{true, false}
use mathlib.Core.List.{List, [], ◌∷◌, ◌++◌, map}
use native.Mathlib.Omega.{arith}
use borrow.Author.Tests.{ne_eqb}
use borrow.Table.Steps.{cases}
use lib.Dec.{ltb, eqb}
use Rattle.pricelevel.specs.declared.Price.{Price}
use Rattle.pricelevel.specs.declared.Side.{Side}
use Rattle.pricelevel.specs.declared.Side.TheVariants.{Buy, Sell}
use Rattle.stop_terms.specs.Terms.{behind}
use Rattle.stop_terms.proofs.Terms.{tests, behind_past, behind_asym}
use Rattle.book.proofs.Sort.{insert, insert_by_all}
use Rattle.book.specs.Book.{Slot, Chain, ByStop, stop_of, seq_of, lexicographic, before, Pending, with_index, gather, sort, of_side, earlier_in}
use Rattle.book.specs.declared.StopEntry.{StopEntry}
use Rattle.book.specs.Lists.{All, sort_by, insert_by}
use Rattle.std.specs.Prelude.{None, Option, Some}

-- what a record gives up at first, what it gives up then, and what it gives up at once
pub data Part (Early Late : StopEntry → Type 0) : Option StopEntry → Option StopEntry → Option StopEntry → Type 0 where
  early : (x : StopEntry) → Early x → Part Early Late (Some x) None (Some x)
  late : (x : StopEntry) → Late x → Part Early Late None (Some x) (Some x)
  never : Part Early Late None None None

pub record Apart (c : Chain) (Early Late : StopEntry → Type 0) : Type 0 where
  pub first : (x y : StopEntry) → Early x → Late y → before c x y ≡ true
  pub second : (x y : StopEntry) → Early x → Late y → before c y x ≡ false

-- what holds of every stop in a list
abbrev pub AllStops : (StopEntry → Type 0) → List Pending → Type 0
AllStops P l = All (λ p. P p.entry) l

pub record Parted (Early Late : StopEntry → Type 0) (a b whole : List Pending) : Type 0 where
  pub joined : whole ≡ a ++ b
  pub front : AllStops Early a
  pub back : AllStops Late b

module _ (c : Chain) (Early Late : StopEntry → Type 0) (w : Apart c Early Late) where
  insert_front : (x : Pending) (a b : List Pending) → Early x.entry → AllStops Late b
      → insert c x (a ++ b) ≡ insert c x a ++ b
  unfolding insert_by
  insert_front x [] [] h k = refl
  insert_front x [] (y ∷ b) h k = rw (w.first x.entry y.entry h k.0)
  insert_front x (y ∷ a) b h k =
      cases (before c x.entry y.entry) (λ e. rw e) (λ e. rw (e, insert_front x a b h k))

  insert_back : (x : Pending) (a b : List Pending) → Late x.entry → AllStops Early a
      → insert c x (a ++ b) ≡ a ++ insert c x b
  unfolding insert_by
  insert_back x [] b h k = refl
  insert_back x (y ∷ a) b h k = rw (w.second y.entry x.entry k.0 h, insert_back x a b h k.1)

  parted-with_index : {f g r : Option StopEntry} (i : ℕ) (a b l : List Pending) → Part Early Late f g r
      → Parted Early Late (sort c a) (sort c b) (sort c l)
      → Parted Early Late (sort c (with_index i f a)) (sort c (with_index i g b)) (sort c (with_index i r l))
  unfolding sort_by with_index
  parted-with_index i a b l (early x h) v =
      let p : Pending = record { index = i; entry = x } in
      record {
        joined = rw v.joined (insert_front p (sort c a) (sort c b) h v.back);
        front = insert_by_all (earlier_in c) (λ q. Early q.entry) p (sort c a) h v.front;
        back = v.back;
      }
  parted-with_index i a b l (late x h) v =
      let p : Pending = record { index = i; entry = x } in
      record {
        joined = rw v.joined (insert_back p (sort c a) (sort c b) h v.front);
        front = v.front;
        back = insert_by_all (earlier_in c) (λ q. Late q.entry) p (sort c b) h v.back;
      }
  parted-with_index i a b l never v = v

  pub parted : (f g r : Slot → Option StopEntry) (after : Slot → Slot) (i : ℕ) (ss : List Slot)
      → All (λ s. Part Early Late (f s) (g (after s)) (r s)) ss
      → Parted Early Late (sort c (gather f i ss)) (sort c (gather g i (map after ss))) (sort c (gather r i ss))
  unfolding sort_by gather
  parted f g r after i [] k = record { joined = refl; front = tt; back = tt }
  parted f g r after i (s ∷ ss) k =
      parted-with_index i (gather f (suc i) ss) (gather g (suc i) (map after ss)) (gather r (suc i) ss) k.0
      (parted f g r after (suc i) ss k.1)

------------------------------------------------------------------------
-- The chain by stop, parted by a price

abbrev pub Met : Side → Price → StopEntry → Type 0
Met d p t = behind d (stop_of t) p.0 ≡ false

abbrev pub Unmet : Side → Price → StopEntry → Type 0
Unmet d p t = behind d (stop_of t) p.0 ≡ true

before-ByStop : (d : Side) (x y : StopEntry)
    → before (ByStop d) x y ≡ lexicographic (behind d (stop_of y) (stop_of x)) (stop_of x) (stop_of y)
    (ltb (seq_of x) (seq_of y))
unfolding before behind
before-ByStop Sell x y = refl
before-ByStop Buy x y = refl

behind-differs : (d : Side) (a b : ℕ) → behind d a b ≡ true → eqb a b ≡ false
unfolding behind
behind-differs Sell a b h = ne_eqb a b (λ e. omega (arith, tests))
behind-differs Buy a b h = ne_eqb a b (λ e. omega (arith, tests))

-- the stops that a price meets come before those that it does not meet
pub stops-apart : (d : Side) (p : Price) → Apart (ByStop d) (Met d p) (Unmet d p)
unfolding lexicographic
stops-apart d p = record {
  first = λ x y e l. rw (before-ByStop d x y, behind_past d (stop_of y) p.0 (stop_of x) l e);
  second = λ x y e l.
      let h = behind_past d (stop_of y) p.0 (stop_of x) l e in
      rw (before-ByStop d y x, behind_asym d (stop_of y) (stop_of x) h, behind-differs d (stop_of y) (stop_of x) h);
}

pub part_early : (d s : Side) (p : Price) (t : StopEntry) → Met s p t
    → Part (Met d p) (Unmet d p) (of_side d s t) None (of_side d s t)
unfolding of_side
part_early Sell Sell p t h = early t h
part_early Sell Buy p t h = never
part_early Buy Sell p t h = never
part_early Buy Buy p t h = early t h

pub part_late : (d s : Side) (p : Price) (t : StopEntry) → Unmet s p t
    → Part (Met d p) (Unmet d p) None (of_side d s t) (of_side d s t)
unfolding of_side
part_late Sell Sell p t h = late t h
part_late Sell Buy p t h = never
part_late Buy Sell p t h = never
part_late Buy Buy p t h = late t h
