-- `stop_protection::StopProtection::check_tick_size` meets its contract, by what `on_tick` ensures.
use mathlib.Core.Path.{sym, ◌∙◌}
use Rattle.stop_protection.specs.Collar.{check_tick_size}
use Rattle.error.specs.Answer.{told_answer}
use Rattle.stop_protection.proofs.StopProtection.check_tick_size.Goals as goal

pub returns-then-on_tick : goal.returns-then-on_tick
unfolding check_tick_size told_answer
returns-then-on_tick c = rw (sym c.on_tick.ensures ∙ c.if-on_tick.true)

pub returns : goal.returns
unfolding check_tick_size told_answer
returns c = rw (sym c.on_tick.ensures ∙ c.if-on_tick.false)
