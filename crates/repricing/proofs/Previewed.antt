-- The preview against the store: document 02, Two. A panel's watermark falls behind the host's where a price moves the
-- watermark and does not improve the stop, and the stops stay equal all the same. Nothing here opens the candidate: its
-- law that a further price undoes an earlier one is enough.
use Prim.Native.Nat.{ℕ}
use mathlib.Core.Path.{◌≡◌, refl, sym, ap, ap₂, ◌∙◌}
use mathlib.Core.Bool.{true, false}
use mathlib.Core.List.{List, [], ◌∷◌}
use mathlib.Core.Logic.{◌⊎◌, inl, inr}
use borrow.Table.Steps.{cases}
use Rattle.pricelevel.specs.declared.Price.{Price}
use Rattle.stop_terms.specs.Terms.{behind, candidate, tightened, ratcheted, trailed_at}
use Rattle.stop_terms.specs.declared.StopTerms.{StopTerms}
use Rattle.stop_terms.proofs.Terms.{behind_under, behind_irrefl, behind_asym, tightened_past, tightened_only, tightened_still, tightened-behind-candidate, candidate_again, trailed_at_keeps}
use Rattle.repricing.proofs.Preview.{preview_still, preview-beyond, preview_kept, preview-adjusted}
use Rattle.repricing.specs.Preview.{preview}
use Rattle.repricing.specs.Previewed.{adjusted, previewed_at, stop_after_each, DrawsRight}
use Rattle.repricing.specs.declared.Adjustment.{Adjustment}
use Rattle.std.specs.Prelude.{None, Option, Some}

-- where a price puts the stop of these terms, if it is past their watermark
abbrev tightened_at : StopTerms → Price → ℕ
tightened_at t p = tightened t.side t.stop.0 (candidate t.side t.trail p.0)

-- the same terms with another watermark
abbrev with_watermark : Price → StopTerms → StopTerms
with_watermark v t = record { side = t.side; stop = t.stop; watermark = v; trail = t.trail }

------------------------------------------------------------------------
-- What a panel makes of a price, in the words of the stop that the host tightens

module _ (t : StopTerms) (p : Price) where
  previewed_still : behind t.side t.watermark.0 p.0 ≡ false → previewed_at t p ≡ t
  unfolding previewed_at adjusted
  previewed_still h = ap (adjusted t) (preview_still t.side t.stop t.trail t.watermark p h)

  -- a price that does not tighten the stop
  previewed_kept : behind t.side t.stop.0 (tightened_at t p) ≡ false → previewed_at t p ≡ t
  unfolding previewed_at adjusted
  previewed_kept k = go (candidate t.side t.trail p.0) refl
    where
      go : (c : Option ℕ) → candidate t.side t.trail p.0 ≡ c → previewed_at t p ≡ t
      go None e = ap (adjusted t) (preview-beyond t.side t.stop t.trail t.watermark p e)
      go (Some c) e =
          ap (adjusted t) (preview_kept t.side t.stop t.trail t.watermark p c e
          (sym (tightened-behind-candidate t.side t.stop.0 c) ∙ rw e at k))

  -- one past the watermark that does
  previewed-tightened : behind t.side t.watermark.0 p.0 ≡ true
      → behind t.side t.stop.0 (tightened_at t p) ≡ true
      → previewed_at t p ≡ ratcheted t p
  unfolding previewed_at adjusted ratcheted tightened
  previewed-tightened h k = go (candidate t.side t.trail p.0) refl
    where
      go : (c : Option ℕ) → candidate t.side t.trail p.0 ≡ c → previewed_at t p ≡ ratcheted t p
      go None e = let g = behind_irrefl t.side t.stop.0 in let k' = rw e at k in cc
      go (Some c) e =
          let f = sym (tightened-behind-candidate t.side t.stop.0 c) ∙ rw e at k in
          ap (adjusted t) (preview-adjusted t.side t.stop t.trail t.watermark p c h e f)
          ∙ rw (e, tightened_past t.side t.stop.0 c f)

------------------------------------------------------------------------
-- One price. The panel's terms are the host's but for a watermark v that may lag behind

-- v is not past the host's watermark; and it is the host's, or the candidate at the host's is no better than the stop
record Lags (t : StopTerms) (v : Price) : Type 0 where
  within : behind t.side t.watermark.0 v.0 ≡ false
  level_or_spent : (v ≡ t.watermark) ⊎ (tightened_at t t.watermark ≡ t.stop.0)

-- a panel that draws u where the host keeps t
record Follows (t u : StopTerms) : Type 0 where
  watermark : Price
  drawn : u ≡ with_watermark watermark t
  lags : Lags t watermark

module _ (t : StopTerms) (v p : Price) (l : Lags t v) where
  -- the price is past the host's watermark, so also past the panel's
  follows_past : behind t.side t.watermark.0 p.0 ≡ true
      → Follows (ratcheted t p) (previewed_at (with_watermark v t) p)
  unfolding ratcheted
  follows_past h =
      let g = behind_under t.side v.0 t.watermark.0 p.0 l.within h in
      cases (behind t.side t.stop.0 (tightened_at t p))
      (λ k. record {
        watermark = p;
        drawn = previewed-tightened (with_watermark v t) p g k;
        lags = record { within = behind_irrefl t.side p.0; level_or_spent = inl refl };
      })
      (λ k.
      let same = tightened_still t.side t.stop.0 (candidate t.side t.trail p.0) k in
      record {
        watermark = v;
        drawn = previewed_kept (with_watermark v t) p k ∙ rw same;
        lags = record {
          within = behind_asym t.side v.0 p.0 g;
          level_or_spent = inr (rw same same);
        };
      })

  -- the price is not past the host's watermark: past the panel's it is where that lags, and there it is no better
  follows_still : behind t.side t.watermark.0 p.0 ≡ false → Follows t (previewed_at (with_watermark v t) p)
  follows_still h = record {
    watermark = v;
    drawn = elim l.level_or_spent [
      | inl e ↦ previewed_still (with_watermark v t) p (rw e h)
      | inr e ↦ previewed_kept (with_watermark v t) p (spent e)
    ];
    lags = l;
  }
    where
      spent : tightened_at t t.watermark ≡ t.stop.0 → behind t.side t.stop.0 (tightened_at t p) ≡ false
      spent e =
          let s = t.side in
          let again = candidate_again s t.trail p.0 t.watermark.0 t.stop.0 h in
          rw (again ∙ e) at (tightened_only s (tightened_at t p) (candidate s t.trail t.watermark.0))

follows_each : (t u : StopTerms) → Follows t u → (p : Price) → Follows (trailed_at t p) (previewed_at u p)
unfolding trailed_at
follows_each t u f p =
    rw f.drawn (cases (behind t.side t.watermark.0 p.0)
    (λ h. rw h (follows_past t f.watermark p f.lags h))
    (λ h. rw h (follows_still t f.watermark p f.lags h)))

follows_itself : (t : StopTerms) → Follows t t
follows_itself t = record {
  watermark = t.watermark;
  drawn = refl;
  lags = record { within = behind_irrefl t.side t.watermark.0; level_or_spent = inl refl };
}

------------------------------------------------------------------------
-- Runs of prices

follows_stops : (t u : StopTerms) → Follows t u → (prices : List Price)
    → stop_after_each previewed_at u prices ≡ stop_after_each trailed_at t prices
unfolding stop_after_each
follows_stops t u f [] = refl
follows_stops t u f (p ∷ ps) =
    let g = follows_each t u f p in
    ap₂ (λ (x : Price) (l : List Price). x ∷ l) (ap (λ (x : StopTerms). x.stop) g.drawn)
    (follows_stops (trailed_at t p) (previewed_at u p) g ps)

-- Document 02, Two. Whatever the terms, inconsistent ones and a trail of zero among them, and whatever the prices, any
-- number and direction: fed to the preview, with an empty one leaving the terms as they are, and to `trailed`, they give
-- the same stop after each price, on both sides and at both ends of the price range.
pub drawn_right : (t : StopTerms) (prices : List Price)
    → stop_after_each previewed_at t prices ≡ stop_after_each trailed_at t prices
drawn_right t prices = follows_stops t t (follows_itself t) prices

------------------------------------------------------------------------
-- A panel that draws a stop right

-- as one does that starts from its terms
pub draws_itself : (t : StopTerms) → DrawsRight t t
draws_itself t = record { side = refl; stop = refl; after_each = drawn_right t }

previewed_side : (u : StopTerms) (p : Price) → (previewed_at u p).side ≡ u.side
unfolding previewed_at adjusted
previewed_side u p = go (preview u.side u.stop u.trail u.watermark p)
  where
    go : (a : Option Adjustment) → (adjusted u a).side ≡ u.side
    go None = refl
    go (Some a) = refl

-- still does after the next price
pub draws_next : (t u : StopTerms) → DrawsRight t u → (p : Price) → DrawsRight (trailed_at t p) (previewed_at u p)
unfolding stop_after_each
draws_next t u d p = record {
  side = previewed_side u p ∙ d.side ∙ sym (trailed_at_keeps t p).0;
  stop = let e = d.after_each (p ∷ []) in cc;
  after_each = λ ps. let e = d.after_each (p ∷ ps) in cc;
}
