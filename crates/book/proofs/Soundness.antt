-- A sound stop, part by part; a stop stays sound when the next sequence goes up.
use Rattle.std.specs.Prelude.{is_none}
use Prim.Native.Nat.{ℕ, ◌≤◌, ◌<◌}
use native.Mathlib.Omega.{arith}
use mathlib.Core.Path.{◌≡◌, refl}
use mathlib.Core.Bool.{true, not, ◌&&◌}
use borrow.Author.Tests.{ltb-true, lt-ltb, leb-true, le-leb, eqb-false, ne_eqb, not-true}
use borrow.Table.Steps.{cases}
use lib.Dec.{ltb, leb, eqb}
use Rattle.pricelevel.proofs.Bools.{and_parts}
use Rattle.pricelevel.specs.Tick.{on_tick}
use Rattle.stop_terms.proofs.Terms.{inconsistency-number}
use Rattle.stop_terms.specs.Terms.{behind}
use Rattle.stop_terms.specs.declared.StopTerms.{StopTerms}
use Rattle.book.specs.Book.{Slot, vacant, held, seq_of}
use Rattle.book.specs.Store.{within_watermark}
use Rattle.book.specs.Words.{consistent, sound_stop}
use Rattle.book.specs.declared.StopEntry.{StopEntry}

-- no inconsistency: a trail of at least 1, and the stop not past the watermark
consistent_tests : (t : StopTerms) → consistent t ≡ (not (eqb t.trail 0) && within_watermark t)
unfolding consistent within_watermark
consistent_tests t = rw (inconsistency-number t) (cases (eqb t.trail 0) (λ e. rw e)
    (λ e. cases (behind t.side t.watermark.0 t.stop.0) (λ f. rw (e, f)) (λ f. rw (e, f))))

pub consistent_parts : (t : StopTerms) → consistent t ≡ true → (1 ≤ t.trail) × (within_watermark t ≡ true)
consistent_parts t e =
    let h = and_parts (not (eqb t.trail 0)) _ (rw consistent_tests at e) in
    (omega (arith, eqb-false t.trail 0 (not-true (eqb t.trail 0) h.0)), h.1)

pub consistent_of : (t : StopTerms) → 1 ≤ t.trail → within_watermark t ≡ true → consistent t ≡ true
consistent_of t h k = rw (consistent_tests t, ne_eqb t.trail 0 (λ e. omega arith), k)

pub record Sound (next tick : ℕ) (t : StopEntry) : Type 0 where
  pub sequence : seq_of t < next
  pub quantity : 1 ≤ t.quantity.0
  pub terms : consistent t.terms ≡ true
  pub is_on_tick : on_tick tick t.terms.trail ≡ true

pub sound_parts : (next tick : ℕ) (t : StopEntry) → sound_stop next tick (held t) ≡ true → Sound next tick t
unfolding sound_stop
sound_parts next tick t e =
    let s = and_parts (ltb (seq_of t) next) _ e in
    let q = and_parts (leb 1 t.quantity.0) _ s.1 in
    let c = and_parts (consistent t.terms) _ q.1 in
    record { sequence = ltb-true _ _ s.0; quantity = leb-true _ _ q.0; terms = c.0; is_on_tick = c.1 }

pub sound_of : (next tick : ℕ) (t : StopEntry) → Sound next tick t → sound_stop next tick (held t) ≡ true
unfolding sound_stop
sound_of next tick t s =
    rw (lt-ltb (seq_of t) next s.sequence, le-leb 1 t.quantity.0 s.quantity, s.terms, s.is_on_tick)

pub sound_later : (m n tick : ℕ) (s : Slot) → m ≤ n → sound_stop m tick s ≡ true → sound_stop n tick s ≡ true
unfolding sound_stop
sound_later m n tick vacant h e = refl
sound_later m n tick (held t) h e =
    let s = sound_parts m tick t e in
    sound_of n tick t (record {
      sequence = omega (arith, s.sequence);
      quantity = s.quantity;
      terms = s.terms;
      is_on_tick = s.is_on_tick;
    })
