-- `host_ladder::ladder` meets its contract.
use Rattle.host_ladder.proofs.ladder.Goals as goal

pub returns : goal.returns
returns c =
    rw (← c.ladder-listed.ensures.0) (c.answer.ensures, c.ladder-listed.ensures.1)
