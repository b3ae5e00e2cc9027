-- `host_store::of_layout` meets its contract.
use Rattle.error.specs.Answer.{told_answer}
use Rattle.host_words.specs.Answers.{number}
use Rattle.host_store.proofs.of_layout.Goals as goal

pub returns-in-Ok : goal.returns-in-Ok
unfolding number told_answer
returns-in-Ok c = rw c.in-Ok.is

pub returns-in-Err : goal.returns-in-Err
unfolding number told_answer
returns-in-Err c = rw c.in-Err.is c.number.ensures
