-- `yubtomiq::over_ends` meets its contract: a run of no prices, or the segment over its ends.
use mathlib.Core.Path.{refl}
use Rattle.both_ways.proofs.EndsAndRun.{between_ends, without-price}
use Rattle.host_words.specs.Answers.{answered, number}
use Rattle.host_words.specs.Arguments.{last_price_of, settings_of}
use Rattle.yubtomiq.proofs.over_ends.Goals as goal

pub returns-then-count-eq0 : goal.returns-then-count-eq0
unfolding number answered
returns-then-count-eq0 c =
    let g = c.args in
    let d =
    without-price (settings_of g.settings.now) (last_price_of g.prev.now) g.s.now g.elected.now
    g.moved.now g.prices.now c.if-count-eq0.true in
    (rw (← d.0) (c.number.ensures, refl), d.1, d.2, d.3)

pub returns : goal.returns
returns c =
    let g = c.args in
    rw (between_ends (settings_of g.settings.now) (last_price_of g.prev.now) g.s.now g.elected.now
    g.moved.now g.prices.now c.if-count-eq0.false) at c.yubtomiq_segment.ensures
