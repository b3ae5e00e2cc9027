-- `forecast_input::four_at` meets its contract: the four bytes, each below 256.
use native.Mathlib.Omega.{arith}
use Rattle.forecast_input.specs.Input.{four_at}
use Rattle.forecast_input.proofs.four_at.Goals as goal

pub returns : goal.returns
unfolding four_at
returns c =
    let d = c.wide-d.ensures in
    let third = c.wide-c.ensures in
    let second = c.wide-b.ensures in
    let first = c.wide-a.ensures in
    record {
      value = rw (first.0, second.0, third.0, d.0);
      upper_bound = omega (arith, first.1, second.1, third.1, d.1);
    }
