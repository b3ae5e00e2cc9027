-- One record through a point: what it holds afterwards or gives up; and that it stays sound, apart from the other
-- records, and of words.
use Prim.Native.Nat.{ℕ, ◌<◌, ◌+◌, ◌^◌}
use mathlib.Core.Path.{◌≡◌, refl, sym}
use mathlib.Core.Bool.{Bool, true, false}
use mathlib.Core.List.{List, [], ◌∷◌, map}
use native.Mathlib.Omega.{arith}
use borrow.Author.Tests.{not-true}
use borrow.Table.Steps.{cases}
use lib.Dec.{leb, ltb}
use Rattle.pricelevel.proofs.Bools.{and_parts}
use Rattle.pricelevel.specs.declared.Price.{Price}
use Rattle.pricelevel.specs.declared.Side.{Side}
use Rattle.pricelevel.specs.declared.Side.TheVariants.{Buy, Sell}
use Rattle.stop_terms.proofs.Terms.{behind_under, behind_asym, tightened-behind}
use Rattle.stop_terms.specs.Terms.{behind, candidate, tightened, ratcheted, trailed_at}
use Rattle.book.proofs.Lists.{every_all, all-every, all_mapped}
use Rattle.book.proofs.Lookup.{of_side_some}
use Rattle.book.proofs.Soundness.{consistent_parts, consistent_of, sound_parts, sound_of}
use Rattle.book.proofs.Stops.{trailed_keeps}
use Rattle.book.specs.Valid.{StopFits, SlotFits}
use Rattle.book.specs.Book.{Slot, vacant, held, side_of}
use Rattle.book.specs.Evaluation.{trailed, leaves, vacated_if, settled, leaving_on, leaver}
use Rattle.book.specs.Lists.{every}
use Rattle.book.specs.Store.{within_watermark}
use Rattle.book.specs.Words.{consistent, sound_stop, differs, all_differ}
use Rattle.book.specs.declared.StopEntry.{StopEntry}
use Rattle.std.specs.Prelude.{None, Some}

-- what holds of a free record, and of a stop after trailing, holds of a record after a point
pub settled_keeps : (P : Slot → Type 0) (kill : Bool) (price : Price) (s : Slot) → P vacant
    → ((t : StopEntry) → s ≡ held t → P (held (trailed price t)))
    → P (settled kill price s)
unfolding settled vacated_if
settled_keeps P kill price vacant h k = h
settled_keeps P kill price (held t) h k =
    cases (leaves kill price (trailed price t)) (λ e. rw e h) (λ e. rw e (k t refl))

-- a stop that the point leaves in the record, and the one that it was
pub record StaysAs (kill : Bool) (price : Price) (s : Slot) (u : StopEntry) : Type 0 where
  pub before : StopEntry
  pub was : s ≡ held before
  pub waits : leaves kill price (trailed price before) ≡ false
  pub after : u ≡ trailed price before

pub settled-stays : (kill : Bool) (price : Price) (s : Slot) (u : StopEntry) → settled kill price s ≡ held u
    → StaysAs kill price s u
unfolding settled vacated_if
settled-stays kill price vacant u e = let z : ◌≡◌ {A = ℕ} 0 1 = cc in absurd (omega arith)
settled-stays kill price (held t) u e = cases (leaves kill price (trailed price t))
    (λ f. let g : vacant ≡ held u = rw f at e in let z : ◌≡◌ {A = ℕ} 0 1 = cc in absurd (omega arith))
    (λ f. let g : held (trailed price t) ≡ held u = rw f at e in record {
      before = t;
      was = refl;
      waits = f;
      after = cc;
    })

-- a stop that it takes out, and the one that it was
pub record LeavesAs (kill : Bool) (price : Price) (s : Slot) (u : StopEntry) : Type 0 where
  pub before : StopEntry
  pub was : s ≡ held before
  pub leaving : leaves kill price (trailed price before) ≡ true
  pub after : u ≡ trailed price before

pub leaver-leaves : (kill : Bool) (price : Price) (side : Side) (s : Slot) (u : StopEntry)
    → leaver kill price side s ≡ Some u
    → LeavesAs kill price s u
unfolding leaver leaving_on
leaver-leaves kill price side vacant u e = let z : ◌≡◌ {A = ℕ} 0 1 = cc in absurd (omega arith)
leaver-leaves kill price side (held t) u e = cases (leaves kill price (trailed price t))
    (λ f. record {
      before = t;
      was = refl;
      leaving = f;
      after = sym (of_side_some side (side_of (trailed price t)) (trailed price t) u (rw f at e));
    })
    (λ f. let g : None ≡ Some u = rw f at e in let z : ◌≡◌ {A = ℕ} 0 1 = cc in absurd (omega arith))

------------------------------------------------------------------------
-- Soundness

pub trailed-consistent : (price : Price) (t : StopEntry) → consistent t.terms ≡ true
    → consistent (trailed price t).terms ≡ true
unfolding trailed trailed_at ratcheted within_watermark
trailed-consistent price t e =
    let h = consistent_parts t.terms e in
    let s : Side = t.terms.side in
    cases (behind s t.terms.watermark.0 price.0)
    (λ f. consistent_of (trailed price t).terms (rw f h.0) (rw (
      f,
      behind_asym s _ price.0
          (tightened-behind s t.terms.trail price.0 t.terms.stop.0 h.0
          (behind_under s _ _ _ (not-true _ h.1) f)),
    )))
    (λ f. consistent_of (trailed price t).terms (rw f h.0) (rw f h.1))

pub trailed_sound : (next tick : ℕ) (price : Price) (t : StopEntry) → sound_stop next tick (held t) ≡ true
    → sound_stop next tick (held (trailed price t)) ≡ true
unfolding trailed
trailed_sound next tick price t e =
    let s = sound_parts next tick t e in
    sound_of next tick (trailed price t) (record {
      sequence = s.sequence;
      quantity = s.quantity;
      terms = trailed-consistent price t s.terms;
      is_on_tick = rw (trailed_keeps price t).1 s.is_on_tick;
    })

pub settled_sound : (next tick : ℕ) (kill : Bool) (price : Price) (s : Slot) → sound_stop next tick s ≡ true
    → sound_stop next tick (settled kill price s) ≡ true
unfolding sound_stop
settled_sound next tick kill price s e =
    settled_keeps (λ u. sound_stop next tick u ≡ true) kill price s refl
    (λ t f. trailed_sound next tick price t (rw f at e))

------------------------------------------------------------------------
-- Identities and sequences

-- a record that differs from a stop still does after a point, and from the stop after trailing
pub settled-differs : (kill : Bool) (price : Price) (t : StopEntry) (s : Slot) → differs t s ≡ true
    → differs (trailed price t) (settled kill price s) ≡ true
unfolding differs trailed
settled-differs kill price t s e =
    settled_keeps (λ u. differs (trailed price t) u ≡ true) kill price s refl (λ u f. rw f at e)

pub settled-all_differ : (kill : Bool) (price : Price) (ss : List Slot) → all_differ ss ≡ true
    → all_differ (map (settled kill price) ss) ≡ true
unfolding all_differ settled vacated_if
settled-all_differ kill price [] e = refl
settled-all_differ kill price (vacant ∷ ss) e = settled-all_differ kill price ss e
settled-all_differ kill price (held t ∷ ss) e =
    let h = and_parts (every (differs t) ss) _ e in
    let ih = settled-all_differ kill price ss h.1 in
    cases (leaves kill price (trailed price t)) (λ f. rw f ih)
    (λ f. rw (
      f,
      all-every (differs (trailed price t)) (map (settled kill price) ss)
          (all_mapped (λ s. differs t s ≡ true) (λ s. differs (trailed price t) s ≡ true) (settled kill price)
          (settled-differs kill price t) ss
          (every_all (differs t) ss h.0)),
    ) ih)

------------------------------------------------------------------------
-- Words

pub tightened_fits : (s : Side) (trail price stop : ℕ) → price < 2 ^ 64 → stop < 2 ^ 64
    → tightened s stop (candidate s trail price) < 2 ^ 64
unfolding tightened candidate
tightened_fits Sell trail price stop h k = cases (leb trail price) (λ e. rw e (omega arith)) (λ e. rw e k)
tightened_fits Buy trail price stop h k = cases (ltb (price + trail) (2 ^ 64)) (λ e. rw e (omega arith)) (λ e. rw e k)

pub trailed_fits : (price : Price) (t : StopEntry) → price.0 < 2 ^ 64 → StopFits t → StopFits (trailed price t)
unfolding trailed trailed_at ratcheted
trailed_fits price t h k = cases (behind t.terms.side t.terms.watermark.0 price.0)
    (λ e. record {
      high = k.high;
      low = k.low;
      stop = rw e (tightened_fits t.terms.side t.terms.trail price.0 t.terms.stop.0 h k.stop);
      watermark = rw e h;
      trail = rw e k.trail;
      quantity = k.quantity;
      seq = k.seq;
      holder = k.holder;
    })
    (λ e. rw (trailed, e) k)

pub settled_fits : (kill : Bool) (price : Price) → price.0 < 2 ^ 64 → (s : Slot) → SlotFits s
    → SlotFits (settled kill price s)
settled_fits kill price h s k = settled_keeps SlotFits kill price s tt (λ t e. trailed_fits price t h (rw e at k))
