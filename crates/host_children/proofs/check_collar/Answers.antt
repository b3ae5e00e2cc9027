-- `host_children::check_collar` meets its contract.
use mathlib.Core.Path.{ap, ◌∙◌}
use Rattle.error.specs.Answer.{told_answer}
use Rattle.host_words.specs.Answers.{number}
use Rattle.host_children.proofs.check_collar.Goals as goal

pub returns-in-Ok : goal.returns-in-Ok
unfolding number told_answer
returns-in-Ok c = ap number (rw c.in-Ok.is at c.try_new.ensures)

pub returns-in-Err : goal.returns-in-Err
unfolding number told_answer
returns-in-Err c =
    c.number.ensures ∙ ap number (rw c.in-Err.is at c.try_new.ensures)
