-- `yubtomiq::over_turns` meets its contract: no turning points, or the walk over those that are listed.
use mathlib.Core.List.{map}
use mathlib.Core.Path.{refl, sym}
use lib.ListN.{length}
use lib.Seq.{length-take-le}
use Rattle.both_runs.proofs.TurnsAndRun.{listed_inside, over_listed, not_listed}
use Rattle.host_words.specs.Answers.{answered, number}
use Rattle.host_words.specs.Arguments.{last_price_of, settings_of}
use Rattle.pricelevel.specs.Price.{to_price}
use Rattle.yubtomiq.proofs.BothRuns.{told_refused, told_listed}
use Rattle.yubtomiq.proofs.over_turns.Goals as goal

pub returns-then-number-ne0 : goal.returns-then-number-ne0
unfolding number answered
returns-then-number-ne0 c =
    let g = c.args in
    let d = c.yubtomiq_turning_points-number.ensures in
    let n = not_listed (settings_of g.settings.now) (last_price_of g.prev.now) (map to_price g.prices.now) _
    g.s.now g.elected.now _ (told_refused _ _ _ _ d.0 c.if-number-ne0.true) in
    (rw (← n.0) (refl, refl), n.1, n.2, d.1)

pub slice_bounds-yubtomiq_walk-end : goal.slice_bounds-yubtomiq_walk-end
slice_bounds-yubtomiq_walk-end c =
    let d = c.yubtomiq_turning_points-number.ensures in
    listed_inside _ _ _ (told_listed _ _ _ _ _ d.0 c.if-number-ne0.false) _ _ d.1

pub slice_bounds-yubtomiq_walk-end-2 : goal.slice_bounds-yubtomiq_walk-end-2
slice_bounds-yubtomiq_walk-end-2 c = sym (length-take-le _ _ ((let d = c.yubtomiq_turning_points-number.ensures in listed_inside _ _ _ (told_listed _ _ _ _ _ d.0 c.if-number-ne0.false) _ _ d.1)))

pub returns : goal.returns
returns c =
    let g = c.args in
    let d = c.yubtomiq_turning_points-number.ensures in
    let e = over_listed (map to_price g.prices.now) _ _ (told_listed _ _ _ _ _ d.0 c.if-number-ne0.false) _ _ d.1
    (settings_of g.settings.now) (last_price_of g.prev.now) g.s.now (length g.elected.now) in
    let o = rw e at c.yubtomiq_walk.ensures in
    (o.0, o.1, o.2, d.1)
