-- `mass_cancel::cancel_each` meets its contract: a turn takes the first of those that are left out.
use mathlib.Core.Path.{refl}
use native.Mathlib.Omega.{arith}
use Rattle.by_sequence.proofs.Sequenced.{begins_inside}
use Rattle.mass_cancel.proofs.Leaving.{leaving_start, leaving_record, leaving_member, leaving_next, leaving_end}
use Rattle.mass_cancel.proofs.cancel_each.Goals as goal

pub loop-i-init : goal.loop-i-init
loop-i-init c = (omega arith, refl, λ b r selector st g. leaving_start selector st g)

pub offset_bounds-order-i : goal.offset_bounds-order-i
offset_bounds-order-i c =
    let (b, r, selector, st, g) = c.requires in
    omega (arith, begins_inside _ _ _ g)

pub bounds-order-i : goal.bounds-order-i
bounds-order-i c =
    let (b, r, selector, st, g) = c.requires in
    omega (arith, begins_inside _ _ _ g)

pub terms_at-terms-requires : goal.terms_at-terms-requires
terms_at-terms-requires c =
    let (b, r, selector, st, g) = c.requires in
    leaving_record (c.loop-i.invariant.2 b r selector st g) c.loop-i-test.true (begins_inside _ _ _ g)

pub vacate-requires : goal.vacate-requires
vacate-requires c =
    let (b, r, selector, st, g) = c.requires in
    let now = c.loop-i.invariant.2 b r selector st g in (
      now.book,
      r,
      now.stored,
      leaving_member now c.loop-i-test.true (begins_inside _ _ _ g) _ c.terms_at-terms.ensures,
    )

pub loop-i-preserved : goal.loop-i-preserved
loop-i-preserved c =
    let h = c.loop-i-test.true in (
      omega arith,
      omega (arith, c.vacate.auto, c.loop-i.invariant.1),
      λ b r selector st g.
          let now = c.loop-i.invariant.2 b r selector st g in
          let room = begins_inside _ _ _ g in
          leaving_next now h room _
          (c.vacate.ensures now.book r now.stored (leaving_member now h room _ c.terms_at-terms.ensures)),
    )

pub returns : goal.returns
returns c = λ b r selector st g. leaving_end (c.loop-i.invariant.2 b r selector st g) (omega arith)

pub shape_of-s : goal.shape_of-s
shape_of-s c = c.loop-i.invariant.1
