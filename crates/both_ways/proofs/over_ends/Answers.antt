-- `both_ways::over_ends` meets its contract: a run of no prices, or the segment over its ends.
use Rattle.error.specs.Answer.{told_answer}
use Rattle.both_ways.proofs.EndsAndRun.{without-price, with_prices}
use Rattle.both_ways.proofs.over_ends.Goals as goal

pub returns-then-count-eq0 : goal.returns-then-count-eq0
unfolding told_answer
returns-then-count-eq0 c =
    let g = c.args in
    without-price g.settings g.prev g.s.now g.elected.now g.moved.now g.prices.now c.if-count-eq0.true

pub returns : goal.returns
returns c =
    let g = c.args in
    with_prices g.settings g.prev g.s.now g.elected.now g.moved.now g.prices.now
    c.if-count-eq0.false _ _ _ _ c.segment.ensures
