-- `host_evaluation::step` meets its contract.
use Rattle.host_evaluation.proofs.step.Goals as goal

pub returns : goal.returns
returns c =
    let told = rw c.step-evaluated.ensures.0 at c.answer.ensures in
    rw (← c.settings_of-of.ensures, ← c.last_price_of-before.ensures)
    (told, c.step-evaluated.ensures.1, c.step-evaluated.ensures.2, c.step-evaluated.ensures.3)
