-- `both_runs::evaluate_both_runs` meets its contract: request Five, from the contracts of both calls.
use mathlib.Core.List.{map}
use Rattle.pricelevel.specs.Price.{to_price}
use Rattle.both_runs.proofs.TurnsAndRun.{decided}
use Rattle.both_runs.proofs.evaluate_both_runs.Goals as goal

pub returns : goal.returns
returns c =
    let g = c.args in
    let d = c.over_turns-one.ensures in
    let e = c.walk-two.ensures in
    let all =
    decided g.settings g.prev (map to_price g.prices.now) _ g.turned.now g.run.now g.elected.now
    g.listed.now _ _ _ _ _ _ (record { answers = d.0; words = d.1; lists = d.2 })
    (record { answers = e.0; words = e.1; lists = e.2 }) in
    record {
      decided = all;
      fact = d;
      fact_2 = e;
    }
