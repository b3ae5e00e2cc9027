-- `stop_terms::candidate_at` meets its contract: each way out knows the side and whether the candidate is a price.
use Prim.Native.Nat.{◌+◌, ◌^◌}
use native.Mathlib.Omega.{arith}
use borrow.Author.Tests.{le-leb, lt-leb, lt-ltb, le-ltb}
use Rattle.stop_terms.specs.Terms.{candidate, told_candidate}
use Rattle.stop_terms.proofs.candidate_at.Goals as goal

pub returns-then-price-trail : goal.returns-then-price-trail
unfolding candidate told_candidate
returns-then-price-trail c = rw (c.in-Sell.is, lt-leb _ _ c.if-price-trail.true)

pub returns-then-trail-price : goal.returns-then-trail-price
unfolding candidate told_candidate
returns-then-trail-price c =
    let a = c.args in
    rw (c.in-Buy.is, le-ltb (a.price.0 + a.trail) (2 ^ 64) (omega arith))

pub returns-else-price-trail : goal.returns-else-price-trail
unfolding candidate told_candidate
returns-else-price-trail c = rw (c.in-Sell.is, le-leb _ _ c.if-price-trail.false)

pub returns-else-trail-price : goal.returns-else-trail-price
unfolding candidate told_candidate
returns-else-trail-price c =
    let a = c.args in
    rw (c.in-Buy.is, lt-ltb (a.price.0 + a.trail) (2 ^ 64) (omega arith))
