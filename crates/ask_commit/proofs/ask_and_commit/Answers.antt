-- `ask_commit::ask_and_commit` meets its contract: refused as asking is, or the commit of what was asked is the segment.
use mathlib.Core.Path.{sym, ap, ◌∙◌}
use Rattle.error.specs.Answer.{told_answer}
use Rattle.ask_commit.proofs.AskThenCommit.{refused_untouched, written-counted, commits_whole}
use Rattle.ask_commit.proofs.ask_and_commit.Goals as goal

pub returns-in_default : goal.returns-in_default
returns-in_default c =
    let g = c.args in
    let e = c.ask_segment-asked.ensures in (
      e.0,
      refused_untouched g.settings g.prints g.s.now g.elected.now g.moved.now _ _ c.in_default.is
          e.0,
      e.1,
      e.2,
    )

pub commit_written-requires : goal.commit_written-requires
commit_written-requires c =
    let g = c.args in
    let e = c.ask_segment-asked.ensures in
    written-counted g.settings g.prints g.s.now g.elected.now g.moved.now c.in-Ok.counts
    (sym (ap told_answer c.in-Ok.is) ∙ e.0) _ _ e.1 e.2

pub returns : goal.returns
returns c =
    let g = c.args in
    let e = c.ask_segment-asked.ensures in
    let d = commits_whole g.settings g.prints g.s.now g.elected.now g.moved.now c.in-Ok.counts
    (sym (ap told_answer c.in-Ok.is) ∙ e.0) _ _ e.1 e.2 c.commit_written.result _
    c.commit_written.ensures in
    (d.0, d.1, e.1, e.2)
