-- `evaluate_commit::commit_segment` meets its contract: refused as the segment on the copy is, or for its lists, or done.
use mathlib.Core.Path.{sym, ap, ◌∙◌}
use borrow.Author.Rules.{rules}
use lib.Seq.{length-take-le}
use Rattle.error.specs.Answer.{told_answer}
use Rattle.book.specs.Sizes.{most_words}
use Rattle.evaluate_commit.proofs.Committed.{written_back, commit_refused, lists-counted, commit_differing, commit_done}
use Rattle.evaluate_commit.proofs.commit_segment.Goals as goal

pub returns-in_default : goal.returns-in_default
returns-in_default c =
    let g = c.args in
    commit_refused g.settings g.prints g.s.now c.elected_room-listed.result c.moved_room-shifted.result
    c.elected_room-listed.ensures c.moved_room-shifted.ensures g.elected.now g.moved.now _ _ c.in_default.is
    c.segment_on_copy-o.ensures.0

pub are_listed-requires : goal.are_listed-requires
are_listed-requires c =
    let g = c.args in
    let told = sym (ap told_answer c.in-Ok.is) ∙ c.segment_on_copy-o.ensures.0 in
    lists-counted g.settings g.prints g.s.now c.elected_room-listed.result c.moved_room-shifted.result
    c.elected_room-listed.ensures c.moved_room-shifted.ensures g.elected.now g.moved.now c.in-Ok.counts told _ _
    c.segment_on_copy-o.ensures.3 c.segment_on_copy-o.ensures.4

pub returns-then-not-are_listed : goal.returns-then-not-are_listed
returns-then-not-are_listed c =
    let g = c.args in
    let told = sym (ap told_answer c.in-Ok.is) ∙ c.segment_on_copy-o.ensures.0 in
    commit_differing g.settings g.prints g.s.now c.elected_room-listed.result c.moved_room-shifted.result
    c.elected_room-listed.ensures c.moved_room-shifted.ensures g.elected.now g.moved.now c.in-Ok.counts told _ _
    c.segment_on_copy-o.ensures.3 c.segment_on_copy-o.ensures.4 c.are_listed.result
    c.are_listed.ensures (c.if-not-are_listed.true)

pub slice_bounds-copy_start-end : goal.slice_bounds-copy_start-end
slice_bounds-copy_start-end c = sym (length-take-le _ _ ((search rules)))

pub returns : goal.returns
returns c =
    let g = c.args in
    let told = sym (ap told_answer c.in-Ok.is) ∙ c.segment_on_copy-o.ensures.0 in
    commit_done g.settings g.prints g.s.now c.elected_room-listed.result c.moved_room-shifted.result
    c.elected_room-listed.ensures c.moved_room-shifted.ensures g.elected.now g.moved.now c.in-Ok.counts told _ _
    c.segment_on_copy-o.ensures.3 c.segment_on_copy-o.ensures.4 c.are_listed.result
    c.are_listed.ensures (c.if-not-are_listed.false) _
    (written_back g.s.now _ _ most_words c.segment_on_copy-o.result.many _ ((search rules))
    c.segment_on_copy-o.ensures.1 c.copy_start.ensures.0 c.copy_start.ensures.1 ∙ c.segment_on_copy-o.ensures.2)
