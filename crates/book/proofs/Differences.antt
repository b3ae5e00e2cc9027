-- Stops that differ in identity and sequence, and one record set: all still differ.
use Prim.Native.Nat.{ℕ, zero, suc, ◌≤◌}
use native.Mathlib.Omega.{arith}
use mathlib.Core.Path.{◌≡◌, refl, sym, ◌∙◌}
use mathlib.Core.Bool.{true, false, not, false≢true}
use mathlib.Core.List.{List, [], ◌∷◌}
use borrow.Author.Tests.{eqb-false, ne_eqb, not-true}
use borrow.Table.Steps.{cases}
use lib.ListN.{get_or, set}
use Rattle.pricelevel.proofs.Bools.{and_parts}
use Rattle.pricelevel.proofs.Identity.{same_id_equal, same_id_refl}
use Rattle.pricelevel.specs.Identity.{same_id}
use Rattle.pricelevel.specs.declared.Id.{Id}
use Rattle.book.proofs.Lists.{all-every, every_all, all_of, all_set, all_get_d}
use Rattle.book.proofs.Lookup.{Unnamed}
use Rattle.book.proofs.Soundness.{sound_parts}
use Rattle.book.specs.Book.{Slot, vacant, held, seq_of}
use Rattle.book.specs.Lists.{every, All}
use Rattle.book.specs.Words.{sound_stop, differs, all_differ}
use Rattle.book.specs.declared.StopEntry.{StopEntry}

-- a record differs from another: a vacant one from all
abbrev pub SlotsDiffer : Slot → Slot → Type 0
SlotsDiffer vacant s = Unit {0}
SlotsDiffer (held t) s = differs t s ≡ true

pub all_differ_parts : (s : Slot) (ss : List Slot) → all_differ (s ∷ ss) ≡ true
    → All (SlotsDiffer s) ss × (all_differ ss ≡ true)
unfolding all_differ
all_differ_parts vacant ss e = (all_of (λ s. tt) ss, e)
all_differ_parts (held t) ss e = let h = and_parts (every (differs t) ss) _ e in (every_all (differs t) ss h.0, h.1)

pub all_differ_of : (s : Slot) (ss : List Slot) → All (SlotsDiffer s) ss → all_differ ss ≡ true
    → all_differ (s ∷ ss) ≡ true
unfolding all_differ
all_differ_of vacant ss h e = e
all_differ_of (held t) ss h e = rw (all-every (differs t) ss h, e)

pub slots_differ_vacant : (s : Slot) → SlotsDiffer s vacant
unfolding differs
slots_differ_vacant vacant = tt
slots_differ_vacant (held t) = refl

pub differs_parts : (t u : StopEntry) → differs t (held u) ≡ true
    → (same_id t.id u.id ≡ false) × (seq_of t ≡ seq_of u → ⊥)
unfolding differs
differs_parts t u e =
    let h = and_parts (not (same_id t.id u.id)) _ e in
    (not-true _ h.0, eqb-false (seq_of t) (seq_of u) (not-true _ h.1))

pub differs_of : (t u : StopEntry) → same_id t.id u.id ≡ false → (seq_of t ≡ seq_of u → ⊥)
    → differs t (held u) ≡ true
unfolding differs
differs_of t u e n = rw (e, ne_eqb (seq_of t) (seq_of u) n)

same_id_sym : (a b : Id) → same_id a b ≡ false → same_id b a ≡ false
same_id_sym a b e = cases (same_id b a)
    (λ f. let q : b ≡ a = same_id_equal b a f in absurd (false≢true (sym e ∙ rw q (same_id_refl a))))
    (λ f. f)

pub slots_differ_sym : (s u : Slot) → SlotsDiffer s u → SlotsDiffer u s
slots_differ_sym vacant u h = slots_differ_vacant u
slots_differ_sym (held t) vacant h = tt
slots_differ_sym (held t) (held u) h = let r =
    differs_parts t u h in differs_of u t (same_id_sym t.id u.id r.0) (λ e. r.1 (sym e))

-- a record is apart from all others of a list in which all differ
pub all_differ_others : (ss : List Slot) (k : ℕ) → all_differ ss ≡ true
    → All (SlotsDiffer (get_or ss k vacant)) (set ss k vacant)
all_differ_others [] k e = tt
all_differ_others (s ∷ ss) zero e = (slots_differ_vacant s, (all_differ_parts s ss e).0)
all_differ_others (s ∷ ss) (suc k) e =
    let r = all_differ_parts s ss e in (
      slots_differ_sym s (get_or ss k vacant) (all_get_d (SlotsDiffer s) ss k vacant (slots_differ_vacant s) r.0),
      all_differ_others ss k r.1,
    )

-- a record may become one that is apart from all others
pub all_differ_set : (ss : List Slot) (k : ℕ) (s : Slot) → all_differ ss ≡ true → All (SlotsDiffer s) (set ss k vacant)
    → all_differ (set ss k s) ≡ true
all_differ_set [] k s e h = e
all_differ_set (u ∷ ss) zero s e h = all_differ_of s ss h.1 (all_differ_parts u ss e).1
all_differ_set (u ∷ ss) (suc k) s e h =
    let r = all_differ_parts u ss e in
    all_differ_of u (set ss k s) (all_set (SlotsDiffer u) ss k s (slots_differ_sym s u h.0) r.0)
    (all_differ_set ss k s r.1 h.1)

-- a stop is apart from those of other identities with earlier sequences
pub new_slots_differ : (t : StopEntry) (next tick : ℕ) (s : Slot) → next ≤ seq_of t → Unnamed t.id s
    → sound_stop next tick s ≡ true → SlotsDiffer (held t) s
new_slots_differ t next tick vacant h u e = slots_differ_vacant (held t)
new_slots_differ t next tick (held s) h u e = differs_of t s u (λ q. omega (arith, (sound_parts next tick s e).sequence))
