-- `host_passes::evaluate_pending_stops` meets its contract.
use Rattle.host_passes.proofs.evaluate_pending_stops.Goals as goal

pub returns : goal.returns
returns c =
    let told = rw c.evaluate_pending_stops-passed.ensures.0 at c.answer.ensures in
    rw (← c.settings_of-of.ensures, ← c.prints_of-first.ensures)
    (told, c.evaluate_pending_stops-passed.ensures.1, c.evaluate_pending_stops-passed.ensures.2)
