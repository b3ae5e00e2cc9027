-- `host_commit::commit_segment` meets its contract.
use Rattle.host_commit.proofs.commit_segment.Goals as goal

pub returns : goal.returns
returns c =
    let told = rw c.commit_segment-committed.ensures.0 at c.answer.ensures in
    rw (← c.settings_of-of.ensures, ← c.prints_of-over.ensures) (told, c.commit_segment-committed.ensures.1)
