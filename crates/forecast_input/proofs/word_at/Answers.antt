-- `forecast_input::word_at` meets its contract: its two halves.
use Rattle.forecast_input.specs.Input.{word_at}
use Rattle.forecast_input.proofs.word_at.Goals as goal

pub returns : goal.returns
unfolding word_at
returns c = rw (c.four_at-low.ensures.value, c.four_at-high.ensures.value)
