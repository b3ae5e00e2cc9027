-- `answer_words::answer` meets its contract.
use mathlib.Core.Path.{refl}
use Rattle.error.specs.Answer.{told_answer}
use Rattle.host_words.specs.Answers.{answered, number}
use Rattle.answer_words.proofs.answer.Goals as goal

pub returns-in-Ok : goal.returns-in-Ok
unfolding number answered told_answer
returns-in-Ok g c = rw c.in-Ok.is (refl, c.words.ensures)

pub returns-in-Err : goal.returns-in-Err
unfolding number answered told_answer
returns-in-Err g c = rw c.in-Err.is (c.number.ensures, refl)
