-- `ask` of a `Result<(), Refusal>` meets its contract: each way out knows the verdict so far and the answer.
use Rattle.error.specs.Questions.{asked}
use Rattle.error.specs.Verdict.{told_verdict}
use Rattle.error.proofs.ResultUnitRefusalAsk.ask.Goals as goal

pub returns-then-holds : goal.returns-then-holds
unfolding asked told_verdict
returns-then-holds c = rw (c.in-Ok.is, c.if-holds.true)

pub returns-in-Err : goal.returns-in-Err
unfolding asked told_verdict
returns-in-Err c = rw c.in-Err.is

pub returns-else-holds : goal.returns-else-holds
unfolding asked told_verdict
returns-else-holds c = rw (c.in-Ok.is, c.if-holds.false)
