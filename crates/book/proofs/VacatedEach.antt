-- The book after some of its stops went out, one after the other: it stays valid, and the others stay where they are.
use Prim.Native.Nat.{ℕ, ◌-◌, ◌≤◌}
use native.Mathlib.Omega.{arith}
use mathlib.Core.Path.{◌≡◌, refl, sym, ap, ◌∙◌}
use mathlib.Core.Logic.{◌≢◌}
use mathlib.Core.Bool.{true, false≢true}
use mathlib.Core.List.{List, [], ◌∷◌}
use borrow.Author.Tests.{eqb-true, eqb-false}
use borrow.Table.Steps.{cases}
use lib.Dec.{eqb}
use lib.ListN.{length, get_or, set}
use lib.Seq.{get_or-set_other}
use Rattle.pricelevel.proofs.Identity.{same_id_refl}
use Rattle.pricelevel.specs.Identity.{same_id}
use Rattle.book.proofs.Differences.{SlotsDiffer, all_differ_others, differs_parts, slots_differ_vacant}
use Rattle.book.proofs.Lists.{all_map_both, all_get_d}
use Rattle.book.proofs.Lookup.{InBook, Unnamed, lookup_found, lookup_none}
use Rattle.book.proofs.Members.{Other}
use Rattle.book.proofs.Operations.{vacated-valid, vacated_fits, vacated_length}
use Rattle.book.proofs.Sort.{Pairwise}
use Rattle.book.specs.Book.{Slot, vacant, held, Book, Pending}
use Rattle.book.specs.Collect.{vacated_each}
use Rattle.book.specs.Lists.{All}
use Rattle.book.specs.Store.{lookup, vacated}
use Rattle.book.specs.Valid.{Valid, Fits}
use Rattle.book.specs.Words.{all_differ}
use Rattle.std.specs.Prelude.{None, Option, Some}

-- stops of a book, each of another record
pub record Going (b : Book) (l : List Pending) : Type 0 where
  pub there : All (InBook b.slots) l
  pub other : Pairwise Other l

-- the others are still there when one is out
in_book-vacated : (i : ℕ) (b : Book) (q : Pending) → i ≢ q.index → 1 ≤ i → InBook b.slots q
    → InBook (vacated i b).slots q
unfolding vacated
in_book-vacated i b q n from h = record {
  from = h.from;
  to = rw (vacated_length i b) h.to;
  there = get_or-set_other b.slots (i - 1) (q.index - 1) vacant vacant (omega (arith, h.from)) ∙ h.there;
}

pub going_next : (p : Pending) (l : List Pending) (b : Book) → Going b (p ∷ l) → Going (vacated p.index b) l
going_next p l b g = record {
  there = all_map_both {P = Other p} {Q = InBook b.slots} {R = InBook (vacated p.index b).slots}
      (λ q n h. in_book-vacated p.index b q n g.there.0.from h) l g.other.0 g.there.1;
  other = g.other.1;
}

pub vacated_each-valid : (l : List Pending) (b : Book) → Valid b → Going b l → Valid (vacated_each l b)
unfolding vacated_each
vacated_each-valid [] b v g = v
vacated_each-valid (p ∷ l) b v g =
    vacated_each-valid l (vacated p.index b) (vacated-valid p b v g.there.0) (going_next p l b g)

pub vacated_each_fits : (l : List Pending) (b : Book) → Fits b → Fits (vacated_each l b)
unfolding vacated_each
vacated_each_fits [] b f = f
vacated_each_fits (p ∷ l) b f = vacated_each_fits l (vacated p.index b) (vacated_fits p.index b f)

pub vacated_each_length : (l : List Pending) (b : Book) → length (vacated_each l b).slots ≡ length b.slots
unfolding vacated_each
vacated_each_length [] b = refl
vacated_each_length (p ∷ l) b = vacated_each_length l (vacated p.index b) ∙ vacated_length p.index b

------------------------------------------------------------------------
-- A search by identity finds the one stop that has it

identity_unique : (ss : List Slot) (p q : Pending) → all_differ ss ≡ true → InBook ss p → InBook ss q
    → same_id p.entry.id q.entry.id ≡ true
    → q ≡ p
identity_unique ss p q d h k same = cases (eqb p.index q.index)
    (λ e.
    let i : p.index ≡ q.index = eqb-true p.index q.index e in
    let t : held q.entry ≡ held p.entry = sym k.there ∙ rw i at h.there in
    let u : q.entry ≡ p.entry = cc in
    λ x. record { index = sym i x; entry = u x })
    (λ e.
    let n = eqb-false p.index q.index e in
    let other = get_or-set_other ss (p.index - 1) (q.index - 1) vacant vacant (omega (arith, h.from, k.from)) ∙ k.there in
    let apart = rw (h.there, other) at
    (all_get_d (SlotsDiffer (get_or ss (p.index - 1) vacant)) (set ss (p.index - 1) vacant) (q.index - 1) vacant
    (slots_differ_vacant (get_or ss (p.index - 1) vacant)) (all_differ_others ss (p.index - 1) d)) in
    absurd (false≢true (sym (differs_parts p.entry q.entry apart).0 ∙ same)))

pub lookup_is : (b : Book) (p : Pending) → Valid b → InBook b.slots p → lookup p.entry.id b ≡ Some p
lookup_is b p v h = go (lookup p.entry.id b) refl
  where
    go : (o : Option Pending) → lookup p.entry.id b ≡ o → lookup p.entry.id b ≡ Some p
    go None e =
        let apart = rw h.there at
        (all_get_d (Unnamed p.entry.id) b.slots (p.index - 1) vacant tt (lookup_none p.entry.id b e)) in
        absurd (false≢true (sym apart ∙ same_id_refl p.entry.id))
    go (Some q) e =
        let f = lookup_found p.entry.id b q e in
        e ∙ ap Some (identity_unique b.slots p q v.differ h f.0 f.1)
