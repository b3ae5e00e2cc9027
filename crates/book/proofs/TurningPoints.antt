-- Laws of the turning points of a run: three prices, a turn or one direction all the way; its turning points are no more
-- than its prices, and begin and end as it does.
use Prim.Native.Nat.{ℕ, suc, ◌≤◌}
use mathlib.Core.Path.{◌≡◌, refl, sym}
use mathlib.Core.Bool.{true, false, false≢true}
use mathlib.Core.List.{List, [], ◌∷◌}
use native.Mathlib.Omega.{arith}
use borrow.Table.Steps.{cases}
use lib.Dec.{ltb}
use lib.ListN.{length}
use Rattle.pricelevel.specs.declared.Price.{Price}
use Rattle.pricelevel.specs.declared.Side.{Side}
use Rattle.pricelevel.specs.declared.Side.TheVariants.{Buy, Sell}
use Rattle.stop_terms.specs.Terms.{behind}
use Rattle.stop_terms.proofs.Terms.{tests}
use Rattle.book.specs.Evaluation.{last_of}
use Rattle.book.specs.TurningPoints.{turns_at, turns_from, turning_points}

------------------------------------------------------------------------
-- Three prices: a turn, or one direction all the way

pub record Straight (o h q : Price) : Type 0 where
  pub direction : Side
  pub there : behind direction h.0 o.0 ≡ false
  pub on : behind direction q.0 h.0 ≡ false

pub straight : (o h q : Price) → turns_at o h q ≡ false → Straight o h q
unfolding turns_at behind
straight o h q e =
    cases (ltb o.0 h.0)
    (λ f. cases (ltb q.0 h.0)
    (λ g. absurd (false≢true (sym (rw (f, g) at e))))
    (λ g. record { direction = Sell; there = omega (arith, tests); on = g }))
    (λ f. cases (ltb h.0 q.0)
    (λ g. cases (ltb h.0 o.0)
    (λ k. absurd (false≢true (sym (rw (f, g, k) at e))))
    (λ k. record { direction = Sell; there = k; on = omega (arith, tests) }))
    (λ g. record { direction = Buy; there = f; on = g }))

pub straight_on : (d : Side) (o h q : Price) → behind d h.0 o.0 ≡ false → behind d q.0 h.0 ≡ false
    → turns_at o h q ≡ false
unfolding turns_at behind
straight_on Sell o h q f g = rw (f, g) (cases (ltb o.0 h.0) (λ e. rw e) (λ e. rw e))
straight_on Buy o h q f g = rw (f, g) (cases (ltb h.0 o.0) (λ e. rw e) (λ e. rw e))

-- a turn lies behind both prices on the way of one side: a low for sells, a high for buys
pub record Turn (o h q : Price) : Type 0 where
  pub direction : Side
  pub there : behind direction h.0 o.0 ≡ true
  pub on : behind direction h.0 q.0 ≡ true

pub turn : (o h q : Price) → turns_at o h q ≡ true → Turn o h q
unfolding turns_at behind
turn o h q e =
    cases (ltb o.0 h.0)
    (λ f.
    let k : ltb h.0 o.0 ≡ false = omega (arith, tests) in
    cases (ltb q.0 h.0) (λ g. record { direction = Buy; there = f; on = g })
    (λ g. absurd (false≢true (rw (f, g, k) at e))))
    (λ f. cases (ltb h.0 o.0)
    (λ k. cases (ltb h.0 q.0) (λ g. record { direction = Sell; there = k; on = g })
    (λ g. absurd (false≢true (rw (f, g, k) at e))))
    (λ k. absurd (false≢true (rw (f, k) at e))))

pub turn_on : (d : Side) (o h q : Price) → behind d h.0 o.0 ≡ true → behind d h.0 q.0 ≡ true
    → turns_at o h q ≡ true
unfolding turns_at behind
turn_on Sell o h q f g = let k : ltb o.0 h.0 ≡ false = omega (arith, tests) in rw (f, g, k)
turn_on Buy o h q f g = rw (f, g)

-- without a turn a run does not go back
pub not_back : (d : Side) (o h q : Price) → behind d o.0 h.0 ≡ true → turns_at o h q ≡ false
    → behind d q.0 h.0 ≡ false
unfolding turns_at behind
not_back Sell o h q f e = cases (ltb q.0 h.0) (λ g. absurd (false≢true (sym (rw (f, g) at e)))) (λ g. g)
not_back Buy o h q f e =
    let k : ltb o.0 h.0 ≡ false = omega (arith, tests) in
    cases (ltb h.0 q.0) (λ g. absurd (false≢true (sym (rw (f, g, k) at e)))) (λ g. g)

------------------------------------------------------------------------
-- First, last, and how many

pub turns_from_last : (o h : Price) (ps : List Price) (p : Price) → last_of p (turns_from o h ps) ≡ last_of h ps
unfolding turns_from last_of
turns_from_last o h [] p = refl
turns_from_last o h (q ∷ ps) p =
    cases (turns_at o h q) (λ e. rw e (turns_from_last _ q ps h)) (λ e. rw e (turns_from_last _ q ps p))

-- a run and its turning points begin and end at the same prices
pub record SameEnds (first : Price) (ps turns : List Price) : Type 0 where
  pub after : List Price
  pub begins : turns ≡ first ∷ after
  pub ends : last_of first after ≡ last_of first ps

pub turning_points-ends : (p : Price) (ps : List Price) → SameEnds p ps (turning_points (p ∷ ps))
unfolding turning_points last_of
turning_points-ends p [] = record { after = []; begins = refl; ends = refl }
turning_points-ends p (q ∷ ps) = record { after = turns_from p q ps; begins = refl; ends = turns_from_last p q ps p }

pub turning_points_some : (ps : List Price) → 1 ≤ length ps → 1 ≤ length (turning_points ps)
unfolding turning_points
turning_points_some [] h = h
turning_points_some (p ∷ []) h = omega arith
turning_points_some (p ∷ q ∷ ps) h = omega arith

one_more : {n m : ℕ} → n ≤ m → (suc n ≤ suc m) × (n ≤ suc m)
one_more h = (omega arith, omega arith)

turns_from_length : (o h : Price) (ps : List Price) → length (turns_from o h ps) ≤ suc (length ps)
unfolding turns_from
turns_from_length o h [] = omega arith
turns_from_length o h (q ∷ ps) =
    cases (turns_at o h q) (λ e. rw e (one_more (turns_from_length _ q ps)).0)
    (λ e. rw e (one_more (turns_from_length _ q ps)).1)

pub turning_points_length : (ps : List Price) → length (turning_points ps) ≤ length ps
unfolding turning_points
turning_points_length [] = omega arith
turning_points_length (p ∷ []) = omega arith
turning_points_length (p ∷ q ∷ ps) = omega (arith, turns_from_length p q ps)
