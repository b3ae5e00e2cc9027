-- `host_evaluation::segment` meets its contract.
use Rattle.host_evaluation.proofs.segment.Goals as goal

pub returns : goal.returns
returns c =
    let told = rw c.segment-evaluated.ensures.0 at c.answer.ensures in
    rw (← c.settings_of-of.ensures, ← c.prints_of-over.ensures)
    (told, c.segment-evaluated.ensures.1, c.segment-evaluated.ensures.2, c.segment-evaluated.ensures.3)
