-- `commit_segment` meets its contract: as many words as were put in the array are handed in, which are those of the
-- records as far as it matters.
use Rattle.std.proofs.Common.{replicate, ap, ◌∙◌, ◌+◌, ◌*◌}
use Rattle.book.specs.Commit.{commit_call}
use Rattle.book.specs.Entries.{moved_words}
use Rattle.book.specs.Sizes.{moved_length, most_records}
use Rattle.lent_commit.specs.Handed.{same_elected_records}
use Rattle.lent_commit.proofs.Outcomes.{put_first, moved_read}
use Rattle.lent_commit.proofs.commit_segment.Goals as goal

pub returns : goal.returns
returns c =
    let e = ap (λ l. commit_call (same_elected_records c.args.elected.now l) c.args.settings c.args.prints c.args.s.now)
    (put_first moved_words c.args.moved.now (2 * most_records + 1) c.least-room.result
    (replicate (2 * most_records + 1) (replicate moved_length 0)) c.read.new.words c.least-room.ensures
    c.read.ensures)
    ∙ moved_read c.args.settings c.args.prints c.args.s.now c.args.elected.now c.args.moved.now in
    (c.commit_moving.ensures.0 ∙ ap (λ o. o.answer) e, c.commit_moving.ensures.1 ∙ ap (λ o. o.words) e)
