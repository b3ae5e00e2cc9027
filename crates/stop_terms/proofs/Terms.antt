-- Laws of a stop's terms. Two sides are one order, `behind`; the candidate has three laws, and nothing else opens it.
use Prim.Native.Nat.{ℕ, ◌≤◌, ◌+◌, ◌-◌, ◌^◌}
use mathlib.Core.Path.{◌≡◌, refl}
use mathlib.Core.Bool.{true, false, not, cond}
use native.Mathlib.Omega.{arith}
use borrow.Author.Tests.{ltb-true, ltb-false, leb-true, lt-ltb, le-ltb, le-leb, lt-leb}
use borrow.Table.Steps.{cases}
use lib.Dec.{leb, ltb, eqb}
use Rattle.pricelevel.specs.declared.Price.{Price}
use Rattle.pricelevel.specs.declared.Side.{Side}
use Rattle.pricelevel.specs.declared.Side.TheVariants.{Buy, Sell}
use Rattle.stop_terms.specs.declared.StopTerms.{StopTerms}
use Rattle.stop_terms.specs.Terms.{behind, candidate, tightened, ratcheted, trailed_at, elects, beyond, inconsistency_of, inconsistency_number}
use Rattle.std.specs.Prelude.{None, Option, Some}

pub ruleset tests = (ltb-true, ltb-false, lt-ltb, le-ltb)

------------------------------------------------------------------------
-- The order of a side. A price is at or past another where it is not behind it.

pub behind_past : (s : Side) (a b c : ℕ) → behind s a b ≡ true → behind s c b ≡ false → behind s a c ≡ true
unfolding behind
behind_past Sell a b c h k = omega (arith, tests)
behind_past Buy a b c h k = omega (arith, tests)

pub behind_under : (s : Side) (a b c : ℕ) → behind s b a ≡ false → behind s b c ≡ true → behind s a c ≡ true
unfolding behind
behind_under Sell a b c h k = omega (arith, tests)
behind_under Buy a b c h k = omega (arith, tests)

pub behind_irrefl : (s : Side) (a : ℕ) → behind s a a ≡ false
unfolding behind
behind_irrefl Sell a = omega (arith, tests)
behind_irrefl Buy a = omega (arith, tests)

pub behind_asym : (s : Side) (a b : ℕ) → behind s a b ≡ true → behind s b a ≡ false
unfolding behind
behind_asym Sell a b h = omega (arith, tests)
behind_asym Buy a b h = omega (arith, tests)

pub past_trans : (s : Side) (a b c : ℕ) → behind s b a ≡ false → behind s c b ≡ false → behind s c a ≡ false
unfolding behind
past_trans Sell a b c h k = omega (arith, tests)
past_trans Buy a b c h k = omega (arith, tests)

pub past_antisym : (s : Side) (a b : ℕ) → behind s a b ≡ false → behind s b a ≡ false → a ≡ b
unfolding behind
past_antisym Sell a b h k = omega (arith, tests)
past_antisym Buy a b h k = omega (arith, tests)

-- a stop is elected by the prices that it is not behind
pub elects_past : (s : Side) (price stop : ℕ) → elects s price stop ≡ not (behind s stop price)
unfolding behind elects
elects_past Sell price stop =
    cases (ltb stop price) (λ e. rw (e, lt-leb price stop (ltb-true stop price e)))
    (λ e. rw (e, le-leb price stop (ltb-false stop price e)))
elects_past Buy price stop =
    cases (ltb price stop) (λ e. rw (e, lt-leb stop price (ltb-true price stop e)))
    (λ e. rw (e, le-leb stop price (ltb-false price stop e)))

------------------------------------------------------------------------
-- The candidate: it lies behind the price, a later price in the same direction undoes an earlier one, and a stop only
-- tightens.

pub tightened_past : (s : Side) (stop c : ℕ) → behind s stop c ≡ true → tightened s stop (Some c) ≡ c
unfolding behind tightened
tightened_past Sell stop c h = omega (arith, tests)
tightened_past Buy stop c h = omega (arith, tests)

pub tightened_kept : (s : Side) (stop c : ℕ) → behind s stop c ≡ false → tightened s stop (Some c) ≡ stop
unfolding behind tightened
tightened_kept Sell stop c h = omega (arith, tests)
tightened_kept Buy stop c h = omega (arith, tests)

pub tightened_only : (s : Side) (stop : ℕ) (c : Option ℕ) → behind s (tightened s stop c) stop ≡ false
unfolding behind tightened
tightened_only Sell stop None = omega (arith, tests)
tightened_only Sell stop (Some c) = omega (arith, tests)
tightened_only Buy stop None = omega (arith, tests)
tightened_only Buy stop (Some c) = omega (arith, tests)

-- a stop that a candidate does not tighten is as it was
pub tightened_still : (s : Side) (stop : ℕ) (c : Option ℕ) → behind s stop (tightened s stop c) ≡ false
    → tightened s stop c ≡ stop
tightened_still s stop c h = past_antisym s (tightened s stop c) stop (tightened_only s stop c) h

-- it is tightened exactly if it is behind the candidate
pub tightened-behind-candidate : (s : Side) (stop c : ℕ) → behind s stop (tightened s stop (Some c)) ≡ behind s stop c
tightened-behind-candidate s stop c = cases (behind s stop c)
    (λ e. rw (tightened_past s stop c e))
    (λ e. rw (tightened_kept s stop c e, e) (behind_irrefl s stop))

pub candidate-behind : (s : Side) (trail price c : ℕ) → 1 ≤ trail → candidate s trail price ≡ Some c
    → behind s c price ≡ true
unfolding behind candidate
candidate-behind Sell trail price c h e = cases (leb trail price)
    (λ (f : leb trail price ≡ true). let g : Some (price - trail) ≡ Some c = rw f at e in
    let q : price - trail ≡ c = cc in omega (arith, tests, leb-true))
    (λ (f : leb trail price ≡ false). let g : None ≡ Some c = rw f at e in let z : ◌≡◌ {A = ℕ} 0 1 = cc in
    absurd (omega arith))
candidate-behind Buy trail price c h e = cases (ltb (price + trail) (2 ^ 64))
    (λ (f : ltb (price + trail) (2 ^ 64) ≡ true). let g : Some (price + trail) ≡ Some c = rw f at e in
    let q : price + trail ≡ c = cc in omega (arith, tests))
    (λ (f : ltb (price + trail) (2 ^ 64) ≡ false). let g : None ≡ Some c = rw f at e in let z : ◌≡◌ {A = ℕ} 0 1 = cc in
    absurd (omega arith))

pub candidate_again : (s : Side) (trail p q stop : ℕ) → behind s q p ≡ false
    → tightened s (tightened s stop (candidate s trail p))
    (candidate s trail q) ≡ tightened s stop (candidate s trail q)
unfolding behind candidate tightened
candidate_again Sell trail p q stop h = cases (leb trail p)
    (λ e. rw (e, le-leb trail q (omega (arith, tests, leb-true))) (omega (arith, tests)))
    (λ e. rw e)
candidate_again Buy trail p q stop h = cases (ltb (p + trail) (2 ^ 64))
    (λ e. rw (e, lt-ltb (q + trail) (2 ^ 64) (omega (arith, tests))) (omega (arith, tests)))
    (λ e. rw e)

pub tightened-behind : (s : Side) (trail price stop : ℕ) → 1 ≤ trail → behind s stop price ≡ true
    → behind s (tightened s stop (candidate s trail price)) price ≡ true
unfolding tightened
tightened-behind s trail price stop h k = go (candidate s trail price) refl
  where
    go : (c : Option ℕ) → candidate s trail price ≡ c → behind s (tightened s stop c) price ≡ true
    go None e = k
    go (Some c) e = cases (behind s stop c)
        (λ f. rw (tightened_past s stop c f) (candidate-behind s trail price c h e))
        (λ f. rw (tightened_kept s stop c f) k)

------------------------------------------------------------------------
-- The terms after a trade.

pub trailed_at_still : (t : StopTerms) (price : Price) → behind t.side t.watermark.0 price.0 ≡ false
    → trailed_at t price ≡ t
unfolding trailed_at
trailed_at_still t price h = rw h

-- side and trail stay
pub trailed_at_keeps : (t : StopTerms) (price : Price)
    → ((trailed_at t price).side ≡ t.side) × ((trailed_at t price).trail ≡ t.trail)
unfolding trailed_at ratcheted
trailed_at_keeps t price =
    cases (behind t.side t.watermark.0 price.0) (λ e. rw e (refl, refl)) (λ e. rw e (refl, refl))

pub trailed_at_moved : (t : StopTerms) (price stop : Price) (c : Option ℕ)
    → behind t.side t.watermark.0 price.0 ≡ true
    → c ≡ candidate t.side t.trail price.0 → stop.0 ≡ tightened t.side t.stop.0 c
    → record { side = t.side; stop = stop; watermark = price; trail = t.trail } ≡ trailed_at t price
unfolding trailed_at ratcheted
trailed_at_moved t price stop c h e f =
    let q : stop.0 ≡ tightened t.side t.stop.0 (candidate t.side t.trail price.0) = cc in
    rw h (λ i. record { side = t.side; stop = record { 0 = q i }; watermark = price; trail = t.trail })

------------------------------------------------------------------------
-- The number of an inconsistency: 5 for a zero trail, 6 for a stop beyond its watermark, on either side.

beyond-number : (s : Side) → inconsistency_number (Some (beyond s)) ≡ Some 6
unfolding beyond inconsistency_number
beyond-number Sell = refl
beyond-number Buy = refl

pub inconsistency-number : (t : StopTerms)
    → inconsistency_number (inconsistency_of t) ≡ cond (eqb t.trail 0) (Some 5)
    (cond (behind t.side t.watermark.0 t.stop.0) (Some 6) None)
unfolding inconsistency_of inconsistency_number
inconsistency-number t = cases (eqb t.trail 0) (λ e. rw e)
    (λ e. cases (behind t.side t.watermark.0 t.stop.0) (λ f. rw (e, f) (beyond-number t.side))
    (λ f. rw (e, f)))
