-- `yubtomiq::yubtomiq_evaluate_both_ways` meets its contract: demand 3, from the contracts of both calls.
use mathlib.Core.List.{map}
use mathlib.Core.Path.{refl}
use Rattle.both_ways.proofs.EndsAndRun.{decided}
use Rattle.host_words.specs.Arguments.{last_price_of, settings_of}
use Rattle.pricelevel.specs.Price.{to_price}
use Rattle.yubtomiq.proofs.BothWays.{both_told}
use Rattle.yubtomiq.proofs.yubtomiq_evaluate_both_ways.Goals as goal

pub returns : goal.returns
returns c =
    let g = c.args in
    let d = c.over_ends-number.ensures in
    let e = c.yubtomiq_walk-walked.ensures in
    let all =
    decided (settings_of g.settings.now) (last_price_of g.prev.now) (map to_price g.prices.now) g.ends.now
    g.run.now g.elected.now g.moved.now g.listed.now _ _ _ _ _ _
    (record { answers = refl; words = d.1; lists = d.2 }) (record { answers = refl; words = e.1; lists = e.2 }) in
    (all, both_told _ _ _ _ _ _ d.0 e.0, d.1, d.2, d.3, e.1, e.2)
