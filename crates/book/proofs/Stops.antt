-- One stop at two prices: trailing twice, at which prices it leaves, a stop that a point left in the book, and trails
-- of at least 1.
use Prim.Native.Nat.{ℕ, ◌≤◌}
use mathlib.Core.Path.{◌≡◌, refl}
use mathlib.Core.Bool.{Bool, true, false, not}
use mathlib.Core.List.{List}
use borrow.Author.Tests.{not-true, not-false}
use borrow.Table.Steps.{cases}
use Rattle.pricelevel.specs.declared.Price.{Price}
use Rattle.stop_terms.specs.Terms.{behind, ratcheted, trailed_at, elected_at}
use Rattle.stop_terms.specs.declared.StopTerms.{StopTerms}
use Rattle.stop_terms.proofs.Terms.{behind_past, behind_under, behind_irrefl, past_trans, past_antisym, elects_past, candidate_again, tightened-behind, trailed_at_still, trailed_at_keeps}
use Rattle.book.proofs.Lists.{all_map}
use Rattle.book.specs.Lists.{All}
use Rattle.book.proofs.Soundness.{consistent_parts, sound_parts}
use Rattle.book.specs.Book.{Slot, vacant, held, side_of, stop_of, watermark_of}
use Rattle.book.specs.Evaluation.{trailed, leaves}
use Rattle.book.specs.Store.{within_watermark}
use Rattle.book.specs.Words.{consistent, sound_stop}
use Rattle.book.specs.declared.StopEntry.{StopEntry}

------------------------------------------------------------------------
-- Trailing

pub trailed_still : (p : Price) (t : StopEntry) → behind (side_of t) (watermark_of t) p.0 ≡ false → trailed p t ≡ t
unfolding trailed
trailed_still p t h = rw (trailed_at_still t.terms p h)

-- side and trail stay
pub trailed_keeps : (p : Price) (t : StopEntry)
    → (side_of (trailed p t) ≡ side_of t) × ((trailed p t).terms.trail ≡ t.terms.trail)
unfolding trailed
trailed_keeps p t = trailed_at_keeps t.terms p

-- a later price that is as far or further undoes what the price before it did
trailed_at_again : (p q : Price) (t : StopTerms) → behind t.side q.0 p.0 ≡ false
    → trailed_at (trailed_at t p) q ≡ trailed_at t q
unfolding trailed_at ratcheted
trailed_at_again p q t h = cases (behind t.side t.watermark.0 p.0)
    (λ e.
    let g = behind_past t.side t.watermark.0 p.0 q.0 e h in
    let again = candidate_again t.side t.trail p.0 q.0 t.stop.0 h in
    cases (behind t.side p.0 q.0)
    (λ f. rw (e, f, g, again))
    (λ f. let same : p.0 ≡ q.0 = past_antisym t.side p.0 q.0 f h in rw (e, f, g, same)))
    (λ e. rw e)

pub trailed_again : (p q : Price) (t : StopEntry) → behind (side_of t) q.0 p.0 ≡ false
    → trailed q (trailed p t) ≡ trailed q t
unfolding trailed
trailed_again p q t h = rw (trailed_at_again p q t.terms h)

------------------------------------------------------------------------
-- Leaving

-- but for the kill switch, a stop leaves at the prices that it is not behind
leaves_past : (p : Price) (t : StopEntry) → leaves false p t ≡ not (behind (side_of t) (stop_of t) p.0)
unfolding leaves elected_at
leaves_past p t = elects_past (side_of t) p.0 (stop_of t)

pub stays-behind : (p : Price) (t : StopEntry) → leaves false p t ≡ false → behind (side_of t) (stop_of t) p.0 ≡ true
stays-behind p t l = not-false _ (rw (leaves_past p t) at l)

pub leaves_not-behind : (kill : Bool) (p : Price) (t : StopEntry) → leaves kill p t ≡ true
    → behind (side_of t) (stop_of t) p.0 ≡ false
unfolding leaves
leaves_not-behind true p t l = cc
leaves_not-behind false p t l = not-true _ (rw (leaves_past p t) at l)

-- a stop that leaves at q and not at p is behind p
pub waits-behind : (kill : Bool) (p q : Price) (t : StopEntry) → leaves kill p t ≡ false → leaves kill q t ≡ true
    → behind (side_of t) (stop_of t) p.0 ≡ true
unfolding leaves
waits-behind true p q t l m = cc
waits-behind false p q t l m = stays-behind p t l

-- a stop that leaves at p leaves at each price that comes further towards it
pub leaves_further : (kill : Bool) (p q : Price) (t : StopEntry) → behind (side_of t) p.0 q.0 ≡ false
    → leaves kill p t ≡ true
    → leaves kill q t ≡ true
unfolding leaves
leaves_further true p q t h l = l
leaves_further false p q t h l =
    rw (leaves_past q t, past_trans (side_of t) q.0 p.0 (stop_of t) h (leaves_not-behind false p t l))

------------------------------------------------------------------------
-- A stop that a point at p has left in the book

pub record Settled (kill : Bool) (p : Price) (t : StopEntry) : Type 0 where
  pub reached : behind (side_of t) (watermark_of t) p.0 ≡ false
  pub stays : leaves kill p t ≡ false
  pub trails : 1 ≤ t.terms.trail

watermark_reached : (p : Price) (t : StopEntry)
    → behind (side_of (trailed p t)) (watermark_of (trailed p t)) p.0 ≡ false
unfolding trailed trailed_at ratcheted
watermark_reached p t =
    cases (behind (side_of t) (watermark_of t) p.0) (λ e. rw e (behind_irrefl (side_of t) p.0)) (λ e. rw e e)

pub trailed-settled : (kill : Bool) (p : Price) (t : StopEntry) → 1 ≤ t.terms.trail
    → leaves kill p (trailed p t) ≡ false
    → Settled kill p (trailed p t)
trailed-settled kill p t h l = record {
  reached = watermark_reached p t;
  stays = l;
  trails = rw (trailed_keeps p t).1 h;
}

trailed-behind : (q : Price) (t : StopEntry) → 1 ≤ t.terms.trail → behind (side_of t) (stop_of t) q.0 ≡ true
    → behind (side_of (trailed q t)) (stop_of (trailed q t)) q.0 ≡ true
unfolding trailed trailed_at ratcheted
trailed-behind q t h k = cases (behind (side_of t) (watermark_of t) q.0)
    (λ e. rw e (tightened-behind (side_of t) t.terms.trail q.0 (stop_of t) h k))
    (λ e. rw e k)

-- within its watermark, a stop that trails at a price is elected by neither its old stop nor its new one: so the price
-- elects it exactly if it does before the stop trails
pub leaves_untrailed : (p : Price) (t : StopEntry) → consistent t.terms ≡ true
    → leaves false p (trailed p t) ≡ leaves false p t
unfolding within_watermark
leaves_untrailed p t c =
    let h = consistent_parts t.terms c in
    let s = side_of t in
    cases (behind s (watermark_of t) p.0)
    (λ e.
    let k = behind_under s (stop_of t) (watermark_of t) p.0 (not-true _ h.1) e in
    rw (leaves_past p t, k, leaves_past p (trailed p t), trailed-behind p t h.0 k))
    (λ e. rw (trailed_still p t e))

-- a price that goes the way that a stop trails does not elect it
pub trailed-stays : (kill : Bool) (p q : Price) (t : StopEntry) → behind (side_of t) q.0 p.0 ≡ false
    → Settled kill p t
    → leaves kill q (trailed q t) ≡ false
unfolding leaves
trailed-stays true p q t h w = refl
trailed-stays false p q t h w =
    let k = behind_past (side_of t) (stop_of t) p.0 q.0 (stays-behind p t w.stays) h in
    rw (leaves_past q (trailed q t), trailed-behind q t w.trails k)

------------------------------------------------------------------------
-- Trails of at least 1: what the stops of a sound book have, and all that a run asks of them

-- every held stop has a trail of at least 1
abbrev pub Trails : Slot → Type 0
Trails vacant = Unit {0}
Trails (held t) = 1 ≤ t.terms.trail

slot_sound_trails : (next tick : ℕ) (s : Slot) → sound_stop next tick s ≡ true → Trails s
slot_sound_trails next tick vacant e = tt
slot_sound_trails next tick (held t) e = (consistent_parts t.terms (sound_parts next tick t e).terms).0

pub trails_of_sound : (next tick : ℕ) (ss : List Slot) → All (λ s. sound_stop next tick s ≡ true) ss → All Trails ss
trails_of_sound next tick ss h = all_map (slot_sound_trails next tick) ss h
