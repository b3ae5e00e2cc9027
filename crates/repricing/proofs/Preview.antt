-- The cases of the preview.
use Prim.Native.Nat.{ℕ}
use mathlib.Core.Path.{◌≡◌}
use mathlib.Core.Bool.{true, false}
use borrow.Table.Steps.{cases}
use Rattle.pricelevel.specs.declared.Price.{Price}
use Rattle.pricelevel.specs.declared.Side.{Side}
use Rattle.stop_terms.specs.Terms.{behind, candidate}
use Rattle.repricing.specs.Preview.{improved, preview}
use Rattle.std.specs.Prelude.{None, Some}

module _ (side : Side) (stop : Price) (trail : ℕ) (watermark price : Price) where
  pub preview_still : behind side watermark.0 price.0 ≡ false → preview side stop trail watermark price ≡ None
  unfolding preview
  preview_still h = rw h

  pub preview-beyond : candidate side trail price.0 ≡ None → preview side stop trail watermark price ≡ None
  unfolding preview improved
  preview-beyond e = cases (behind side watermark.0 price.0) (λ h. rw (h, e)) (λ h. rw h)

  pub preview_kept : (c : ℕ) → candidate side trail price.0 ≡ Some c → behind side stop.0 c ≡ false
      → preview side stop trail watermark price ≡ None
  unfolding preview improved
  preview_kept c e k = cases (behind side watermark.0 price.0) (λ h. rw (h, e, k)) (λ h. rw h)

  pub preview-adjusted : (c : ℕ) → behind side watermark.0 price.0 ≡ true
      → candidate side trail price.0 ≡ Some c → behind side stop.0 c ≡ true
      → preview side stop trail watermark price ≡ Some (record { stop = record { 0 = c }; reference = price })
  unfolding preview improved
  preview-adjusted c h e k = rw (h, e, k)
