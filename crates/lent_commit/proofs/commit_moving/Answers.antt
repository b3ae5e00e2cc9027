-- `commit_moving` meets its contract: as many words as were put in the array are handed in, which are those of the
-- records as far as it matters.
use Rattle.std.proofs.Common.{replicate, ap, ◌∙◌, ◌+◌}
use Rattle.book.specs.Commit.{same_words, commit_call}
use Rattle.book.specs.Sizes.{elected_length, most_records}
use Rattle.entry_words.specs.Handed.{handed_words}
use Rattle.lent_commit.proofs.Outcomes.{put_first, elected_read}
use Rattle.lent_commit.proofs.commit_moving.Goals as goal

pub returns : goal.returns
returns c =
    let e = ap (λ l. commit_call (same_words l c.args.moved.now) c.args.settings c.args.prints c.args.s.now)
    (put_first handed_words c.args.elected.now (most_records + 1) c.least-room.result
    (replicate (most_records + 1) (replicate elected_length 0)) c.read.new.words c.least-room.ensures
    c.read.ensures)
    ∙ elected_read c.args.settings c.args.prints c.args.s.now c.args.moved.now c.args.elected.now in
    (c.commit_segment.ensures.0 ∙ ap (λ o. o.answer) e, c.commit_segment.ensures.1 ∙ ap (λ o. o.words) e)
