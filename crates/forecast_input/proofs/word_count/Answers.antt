-- `forecast_input::word_count` meets its contract.
use mathlib.Core.Path.{sym}
use Rattle.forecast_input.proofs.Words.{count_whole, count_none}
use Rattle.forecast_input.proofs.word_count.Goals as goal

pub returns-then-bytes-ne0 : goal.returns-then-bytes-ne0
returns-then-bytes-ne0 c = sym (count_none _ c.if-bytes-ne0.true)

pub returns : goal.returns
returns c = sym (count_whole _ c.if-bytes-ne0.false)
