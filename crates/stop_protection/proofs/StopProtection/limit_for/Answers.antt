-- `stop_protection::StopProtection::limit_for` meets its contract: each way out knows the side and the test that led
-- there.
use native.Mathlib.Omega.{arith}
use Rattle.stop_protection.specs.Collar.{limit_for}
use Rattle.stop_protection.proofs.StopProtection.limit_for.Goals as goal

pub returns-then-collar-stop : goal.returns-then-collar-stop
unfolding limit_for
returns-then-collar-stop c =
    record {
      result_value = rw c.in-Sell.is (omega arith);
      low_bound = omega arith;
    }

pub returns-else-collar-stop : goal.returns-else-collar-stop
unfolding limit_for
returns-else-collar-stop c =
    record {
      result_value = rw c.in-Sell.is (omega arith);
      low_bound = omega arith;
    }

-- CLAUSES ['result_value', 'low_bound']
pub returns-in-Buy : goal.returns-in-Buy
unfolding limit_for
returns-in-Buy c = rw c.in-Buy.is c.sum.ensures
