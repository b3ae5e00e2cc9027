-- `stop_protection::limit_under` meets its contract: each way out knows the variant.
use mathlib.Core.Path.{ap}
use Rattle.stop_protection.proofs.Limits.{limit_decided}
use Rattle.stop_protection.specs.Collar.{limit_under}
use Rattle.stop_protection.proofs.limit_under.Goals as goal
use Rattle.std.specs.Prelude.{Some}

pub returns-in_default : goal.returns-in_default
unfolding limit_under
returns-in_default c = rw c.in_default.is

pub returns : goal.returns
unfolding limit_under
returns c =
    let p = c.limit_price in
    rw c.in-Some.is (ap Some (limit_decided _ _ _ p.result p.ensures.low_bound p.ensures.result_value))
