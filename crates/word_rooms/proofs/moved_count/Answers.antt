-- `moved_count` meets its contract: each arm knows its variant.
use Rattle.error.specs.Answer.{told_answer}
use Rattle.evaluation.specs.Counts.{moved_count}
use Rattle.word_rooms.proofs.moved_count.Goals as goal

pub returns-in-Ok : goal.returns-in-Ok
unfolding moved_count told_answer
returns-in-Ok c = rw c.in-Ok.is

pub returns-in-Err : goal.returns-in-Err
unfolding moved_count told_answer
returns-in-Err c = rw c.in-Err.is
