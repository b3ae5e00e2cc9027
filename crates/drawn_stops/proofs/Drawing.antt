-- A panel that draws a stop right draws its course: pending or elected, by the same price, at the same stop.
use mathlib.Core.Path.{◌≡◌, refl, ap, ◌∙◌}
use mathlib.Core.Bool.{Bool, not, ◌&&◌}
use mathlib.Core.List.{List, [], ◌∷◌}
use borrow.Table.Steps.{cases}
use Rattle.pricelevel.specs.declared.Price.{Price}
use Rattle.stop_terms.specs.Terms.{trailed_at, elected_at}
use Rattle.stop_terms.specs.declared.StopTerms.{StopTerms}
use Rattle.repricing.specs.Previewed.{previewed_at, DrawsRight}
use Rattle.repricing.proofs.Previewed.{draws_next}
use Rattle.drawn_stops.specs.Drawn.{Followed, pending, elected, followed}

draws_elected : (t u : StopTerms) (p : Price) → DrawsRight t u → elected_at u p ≡ elected_at t p
unfolding elected_at
draws_elected t u p d = rw (d.side, d.stop)

-- of two courses: both pending or both elected by the same price, and what the host keeps is drawn right
abbrev DrawsCourse : Followed → Followed → Type 0
DrawsCourse (pending t) (pending u) = DrawsRight t u
DrawsCourse (pending t) (elected u p) = ⊥
DrawsCourse (elected t p) (pending u) = ⊥
DrawsCourse (elected t p) (elected u q) = DrawsRight t u × (q ≡ p)

draws_course : (kill : Bool) (t u : StopTerms) → DrawsRight t u → (prices : List Price)
    → DrawsCourse (followed trailed_at kill t prices) (followed previewed_at kill u prices)
unfolding followed
draws_course kill t u d [] = d
draws_course kill t u d (p ∷ ps) =
    let g = draws_next t u d p in
    rw (draws_elected (trailed_at t p) (previewed_at u p) p g)
    (cases (not kill && elected_at (trailed_at t p) p) (λ e. rw e (g, refl))
    (λ e. rw e (draws_course kill (trailed_at t p) (previewed_at u p) g ps)))

module _ (kill : Bool) (prices : List Price) (t x panel : StopTerms) (d : DrawsRight t panel) where
  pub drawn_pending : followed trailed_at kill t prices ≡ pending x
      → (u : StopTerms) × (followed previewed_at kill panel prices ≡ pending u) × DrawsRight x u
  drawn_pending e = go (followed previewed_at kill panel prices) refl
    where
      go : (f : Followed) → followed previewed_at kill panel prices ≡ f
          → (u : StopTerms) × (followed previewed_at kill panel prices ≡ pending u) × DrawsRight x u
      go (pending u) f = (u, f, rw (e, f) at (draws_course kill t panel d prices))
      go (elected u q) f = absurd (rw (e, f) at (draws_course kill t panel d prices))

  pub drawn_elected : (p : Price) → followed trailed_at kill t prices ≡ elected x p
      → (u : StopTerms) × (followed previewed_at kill panel prices ≡ elected u p) × (u.stop ≡ x.stop)
  drawn_elected p e = go (followed previewed_at kill panel prices) refl
    where
      go : (f : Followed) → followed previewed_at kill panel prices ≡ f
          → (u : StopTerms) × (followed previewed_at kill panel prices ≡ elected u p) × (u.stop ≡ x.stop)
      go (pending u) f = absurd (rw (e, f) at (draws_course kill t panel d prices))
      go (elected u q) f =
          let a = rw (e, f) at (draws_course kill t panel d prices) in
          (u, f ∙ ap (elected u) a.1, a.0.stop)
