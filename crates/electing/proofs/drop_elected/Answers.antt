-- `electing::drop_elected` meets its contract: the loop keeps in front of the rest what it has passed and not dropped.
use native.Mathlib.Omega.{arith}
use mathlib.Core.Path.{sym, ◌∙◌}
use Rattle.chains.proofs.Cells.{cell_below}
use Rattle.book.specs.declared.StoreChain.TheVariants.{Ordered}
use Rattle.electing.proofs.DropPass.{passing_first, passing_places, passing_end, passing_record, passing_left, passing_keep, passing_drop}
use Rattle.electing.proofs.drop_elected.Goals as goal

pub loop-price-init : goal.loop-price-init
loop-price-init c =
    let (ch, h) = c.requires in
    passing_first _ _ _ _ _ (Ordered c.args.c) c.link_of-link.ensures
    c.head_of-p.ensures ch h

pub offset_bounds-s-p : goal.offset_bounds-s-p
offset_bounds-s-p c = let q = passing_places c.loop-price.invariant in omega (arith, q.low, q.few)

pub bounds-s-p : goal.bounds-s-p
bounds-s-p c = let q = passing_places c.loop-price.invariant in omega (arith, q.low, q.room)

pub shape_of-s-then-i-eq0 : goal.shape_of-s-then-i-eq0
shape_of-s-then-i-eq0 c = c.loop-price.invariant.kept.size

pub returns-then-i-eq0 : goal.returns-then-i-eq0
returns-then-i-eq0 c =
    record {
      kept = c.loop-price.invariant.kept;
      by_index = passing_end c.loop-price.invariant c.if-i-eq0.true _ c.head_of-p.ensures;
    }

pub cell-at-requires : goal.cell-at-requires
cell-at-requires c =
    let v = c.loop-price.invariant in
    let r = passing_record v c.if-i-eq0.false in
    let q = passing_places v in
    (r.least, omega (arith, r.most, q.few), q.link_low)

pub terms_at-terms-requires : goal.terms_at-terms-requires
terms_at-terms-requires c = passing_record c.loop-price.invariant c.if-i-eq0.false

pub overflow_sub-left : goal.overflow_sub-left
overflow_sub-left c = passing_left c.loop-price.invariant c.if-i-eq0.false

pub offset_bounds-s-at : goal.offset_bounds-s-at
offset_bounds-s-at c =
    let v = c.loop-price.invariant in
    let q = passing_places v in
    omega (arith, c.cell-at.ensures.record_length_value, (passing_record v c.if-i-eq0.false).most, q.few, q.link_low)

pub bounds-s-at : goal.bounds-s-at
bounds-s-at c =
    let v = c.loop-price.invariant in
    let r = passing_record v c.if-i-eq0.false in
    let q = passing_places v in
    rw c.cell-at.ensures.value (omega (arith, cell_below _ _ _ r.least r.most q.link_low, q.room))

pub offset_bounds-s-p-then-elected_by : goal.offset_bounds-s-p-then-elected_by
offset_bounds-s-p-then-elected_by c = let q = passing_places c.loop-price.invariant in
    omega (arith, q.low, q.few)

pub bounds-s-p-then-elected_by : goal.bounds-s-p-then-elected_by
bounds-s-p-then-elected_by c =
    let q = passing_places c.loop-price.invariant in
    omega (arith, q.low, q.room)

pub loop-price-smaller-then-elected_by : goal.loop-price-smaller-then-elected_by
loop-price-smaller-then-elected_by c = omega (arith, passing_left c.loop-price.invariant c.if-i-eq0.false)

pub loop-price-preserved-then-elected_by : goal.loop-price-preserved-then-elected_by
loop-price-preserved-then-elected_by c =
    passing_drop c.loop-price.invariant c.if-i-eq0.false _ c.cell-at.ensures.value
    (rw c.terms_at-terms.ensures at (sym c.elected_by.ensures ∙ c.if-elected_by.true))

pub loop-price-smaller : goal.loop-price-smaller
loop-price-smaller c = omega (arith, passing_left c.loop-price.invariant c.if-i-eq0.false)

pub loop-price-preserved : goal.loop-price-preserved
loop-price-preserved c =
    passing_keep c.loop-price.invariant c.if-i-eq0.false _ c.cell-at.ensures.value
    (rw c.terms_at-terms.ensures at (sym c.elected_by.ensures ∙ c.if-elected_by.false))
