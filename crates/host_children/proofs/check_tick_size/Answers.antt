-- `host_children::check_tick_size` meets its contract.
use mathlib.Core.Path.{ap, ◌∙◌}
use Rattle.error.specs.Answer.{told_answer}
use Rattle.host_words.specs.Answers.{number}
use Rattle.host_children.proofs.check_tick_size.Goals as goal

pub returns-in-Ok-check_tick_size : goal.returns-in-Ok-check_tick_size
unfolding number told_answer
returns-in-Ok-check_tick_size c =
    let checked = rw c.in-Ok-check_tick_size.is at c.check_tick_size.ensures in
    rw (← c.try_new-made.ensures, c.in-Ok.is) (ap number checked)

pub returns-in-Err-check_tick_size : goal.returns-in-Err-check_tick_size
unfolding number told_answer
returns-in-Err-check_tick_size c =
    let checked = rw c.in-Err-check_tick_size.is at c.check_tick_size.ensures in
    rw (← c.try_new-made.ensures, c.in-Ok.is) (c.number.ensures ∙ ap number checked)

pub returns-in-Err : goal.returns-in-Err
unfolding number told_answer
returns-in-Err c = rw (← c.try_new-made.ensures, c.in-Err.is) c.number-in-Err.ensures
