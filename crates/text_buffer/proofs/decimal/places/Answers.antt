-- `text_buffer::decimal::places` meets its contract: the digits counted, and those of what is left.
use Prim.Native.Nat.{◌-◌}
use native.Mathlib.Omega.{arith}
use Rattle.text_buffer.proofs.Digits.{width_one, width_turn, power_turn, power_last}
use Rattle.text_buffer.proofs.decimal.places.Goals as goal

pub returns-then-rest-lt10-clause-value : goal.returns-then-rest-lt10-clause-value
returns-then-rest-lt10-clause-value c = omega (arith, width_one (41 - c.loop-k.k) c.loop-k.rest c.if-rest-lt10.true)

pub loop-k-preserved : goal.loop-k-preserved
loop-k-preserved c =
    (width_turn _ _ _ c.loop-k-test.true c.if-rest-lt10.false c.loop-k.invariant.0, power_turn _ _ _ c.loop-k.auto.k c.loop-k.invariant.1)

pub returns-clause-value : goal.returns-clause-value
returns-clause-value c =
    omega (arith, width_one (41 - c.loop-k.k) c.loop-k.rest (power_last c.loop-k.k _ _ (omega arith) c.loop-k.invariant.1 c.ranges.n.fits))
