-- `forecast_input::store_length` meets its contract, by the laws of `WordCounts`.
use mathlib.Core.Path.{sym, ◌∙◌}
use native.Mathlib.Omega.{arith}
use Rattle.forecast_input.proofs.WordCounts.{word_inside, store_over, store-named}
use Rattle.forecast_input.proofs.Split.{store_none}
use Rattle.forecast_input.proofs.store_length.Goals as goal

pub returns-then-count-eq0 : goal.returns-then-count-eq0
returns-then-count-eq0 c = sym (store_none _ (sym c.word_count-count.ensures ∙ c.if-count-eq0.true))

pub word_at-n-requires : goal.word_at-n-requires
word_at-n-requires c = word_inside _ _ 0 c.word_count-count.ensures (omega (arith, c.if-count-eq0.false))

pub returns-then-n : goal.returns-then-n
returns-then-n c =
    store_over _ _ _ _ c.word_count-count.ensures c.if-count-eq0.false c.word_at-n.ensures
    c.if-n.true c.least.ensures

pub returns : goal.returns
returns c =
    store-named _ _ _ _ c.word_count-count.ensures c.if-count-eq0.false c.word_at-n.ensures
    c.if-n.false c.least-2.ensures
