-- `host_evaluation::walk` meets its contract.
use Rattle.host_evaluation.proofs.walk.Goals as goal

pub returns : goal.returns
returns c =
    let told = rw c.walk-evaluated.ensures.0 at c.answer.ensures in
    rw (← c.settings_of-of.ensures, ← c.last_price_of-before.ensures)
    (told, c.walk-evaluated.ensures.1, c.walk-evaluated.ensures.2)
