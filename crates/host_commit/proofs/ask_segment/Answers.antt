-- `host_commit::ask_segment` meets its contract.
use Rattle.host_commit.proofs.ask_segment.Goals as goal

pub returns : goal.returns
returns c =
    let told = rw c.ask_segment-asked.ensures.0 at c.answer.ensures in
    rw (← c.settings_of-of.ensures, ← c.prints_of-over.ensures)
    (told, c.ask_segment-asked.ensures.1, c.ask_segment-asked.ensures.2)
