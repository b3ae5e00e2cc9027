-- `both_ways::evaluate_both_ways` meets its contract: demand 3, from the contracts of both calls.
use mathlib.Core.List.{map}
use Rattle.pricelevel.specs.Price.{to_price}
use Rattle.both_ways.proofs.EndsAndRun.{decided}
use Rattle.both_ways.proofs.evaluate_both_ways.Goals as goal

pub returns : goal.returns
returns c =
    let g = c.args in
    let d = c.over_ends-one.ensures in
    let e = c.walk-two.ensures in
    let all =
    decided g.settings g.prev (map to_price g.prices.now) g.ends.now g.run.now g.elected.now
    g.moved.now g.listed.now
    _ _ _ _ _ _ (record { answers = d.0; words = d.1; lists = d.2 }) (record { answers = e.0; words = e.1; lists = e.2 }) in
    record {
      decided = all;
      fact = d;
      fact_2 = e;
    }
