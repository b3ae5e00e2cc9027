-- `forecast_input::price_count` meets its contract, by the laws of `WordCounts`.
use Rattle.forecast_input.proofs.WordCounts.{word_inside, no_count, count_over, count-other, count_right}
use Rattle.forecast_input.proofs.price_count.Goals as goal

pub returns-then-at-count : goal.returns-then-at-count
returns-then-at-count c = no_count _ _ _ 0 c.word_count-count.ensures c.store_length-at.ensures c.if-at-count.true

pub word_at-prices-requires : goal.word_at-prices-requires
word_at-prices-requires c = word_inside _ _ _ c.word_count-count.ensures c.if-at-count.false

pub returns-then-prices : goal.returns-then-prices
returns-then-prices c =
    count_over _ _ _ _ c.word_count-count.ensures c.store_length-at.ensures c.if-at-count.false
    c.word_at-prices.ensures c.if-prices.true

pub returns-then-count-at : goal.returns-then-count-at
returns-then-count-at c =
    count-other _ _ _ _ c.word_count-count.ensures c.store_length-at.ensures c.if-at-count.false
    c.word_at-prices.ensures c.if-prices.false c.if-count-at.true

pub returns : goal.returns
returns c =
    count_right _ _ _ _ c.word_count-count.ensures c.store_length-at.ensures c.if-at-count.false
    c.word_at-prices.ensures c.if-prices.false c.if-count-at.false
