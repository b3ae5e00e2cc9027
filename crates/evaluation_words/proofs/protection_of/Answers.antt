-- `evaluation_words::protection_of` meets its contract.
use Rattle.error.specs.Answer.{told_answer}
use Rattle.evaluation_words.proofs.protection_of.Goals as goal

pub returns-in-Ok : goal.returns-in-Ok
unfolding told_answer
returns-in-Ok c = rw (← c.try_new-made.ensures, c.in-Ok.is)

pub returns-in-Err : goal.returns-in-Err
unfolding told_answer
returns-in-Err c = rw (← c.try_new-made.ensures, c.in-Err.is)
