-- `listing::list_elected` meets its contract: the loop walks along the stop chain.
use native.Mathlib.Omega.{arith}
use Rattle.book.specs.Steps.{elected_in}
use Rattle.book.specs.Evaluation.{fill_at}
use Rattle.book.specs.declared.Chain.TheVariants.{ByStop}
use Rattle.book.specs.Chains.{link_of}
use Rattle.listing.proofs.Along.{at_length, at_end, at_record, at_left, at_stop, at_room, at_next}
use Rattle.listing.proofs.Leaders.{elected_told}
use Rattle.listing.proofs.Notes.{fill_room, fill-written}
use Rattle.listing.proofs.Walked.{head_few, stored_head, walk_start, walk_done, elected_walked}
use Rattle.listing.specs.ChainEntries.{fill_words}
use Rattle.listing.proofs.list_elected.Goals as goal

pub offset_bounds-s-head_of : goal.offset_bounds-s-head_of
offset_bounds-s-head_of c = record { fits = omega (arith, c.head_of.ensures, head_few (ByStop c.args.side)) }

pub bounds-s-head_of : goal.bounds-s-head_of
bounds-s-head_of c =
    let (b, r, st, room) = c.requires in
    rw c.head_of.ensures (stored_head st (ByStop c.args.side))

pub loop-i-init : goal.loop-i-init
loop-i-init c =
    let (b, r, st, room) = c.requires in
    let a = c.args in
    rw c.head_of.ensures
    (walk_start st (elected_in a.side a.price b)
    (λ p. fill_words (fill_at a.price p)) _ _ _ (elected_walked st a.price a.side) _ _ room)

pub terms_at-terms-requires : goal.terms_at-terms-requires
terms_at-terms-requires c = at_record _ _ _ _ _ _ _ _ c.loop-i.invariant c.loop-i-test.true

pub shape_of-list-then-not-elected_by : goal.shape_of-list-then-not-elected_by
shape_of-list-then-not-elected_by c = at_length _ _ _ _ _ _ _ _ c.loop-i.invariant

pub returns-then-not-elected_by : goal.returns-then-not-elected_by
returns-then-not-elected_by c =
    let a = c.args in
    let t = elected_told _ _ _ c.terms_at-terms.ensures _ (c.if-not-elected_by.true) c.elected_by.ensures in
    λ k r st.
    walk_done st (elected_in a.side a.price k)
    (λ p. fill_words (fill_at a.price p)) _ _ _ (elected_walked st a.price a.side) _ _ _ _
    (at_stop _ _ _ _ _ _ _ _ c.loop-i.invariant c.loop-i-test.true t)

pub list_fill-m-requires : goal.list_fill-m-requires
list_fill-m-requires c =
    let a = c.loop-i.invariant in
    let t = elected_told _ _ _ c.terms_at-terms.ensures _ (c.if-not-elected_by.false)
    c.elected_by.ensures in
    let z = c.loop-i-test.true in
    (at_record _ _ _ _ _ _ _ _ a z, fill_room _ _ _ _ (at_room _ _ _ _ _ _ _ _ a z t))

pub word-i-requires : goal.word-i-requires
word-i-requires c = (
  at_record _ _ _ _ _ _ _ _ c.loop-i.invariant c.loop-i-test.true,
  rw c.link_of.ensures
      (omega arith),
)

pub overflow_sub-left : goal.overflow_sub-left
overflow_sub-left c =
    at_left _ _ _ _ _ _ _ _ c.loop-i.invariant c.loop-i-test.true

pub loop-i-smaller : goal.loop-i-smaller
loop-i-smaller c = omega (arith, (at_left _ _ _ _ _ _ _ _ c.loop-i.invariant c.loop-i-test.true))

pub loop-i-preserved : goal.loop-i-preserved
loop-i-preserved c =
    let a = c.loop-i.invariant in
    let t = elected_told _ _ _ c.terms_at-terms.ensures _
    (c.if-not-elected_by.false) c.elected_by.ensures in
    let z = c.loop-i-test.true in
    rw (c.word-i.ensures, c.link_of.ensures)
    (at_next _ _ _ _ _ _ _ _ a z t _ _ (fill-written _ _ _ _ _ _ c.list_fill-m.ensures))

pub shape_of-list : goal.shape_of-list
shape_of-list c = at_length _ _ _ _ _ _ _ _ c.loop-i.invariant

pub returns : goal.returns
returns c =
    let a = c.args in
    λ k r st.
    walk_done st (elected_in a.side a.price k)
    (λ p. fill_words (fill_at a.price p)) _ _ _ (elected_walked st a.price a.side) _ _ _ _
    (at_end _ _ _ _ _ _ _ _ c.loop-i.invariant c.loop-i-test.false)
