-- `store_chains::pop` meets its contract.
use native.Mathlib.Omega.{arith}
use Rattle.chains.proofs.ChainMoves.{popped_first, popped_record, popped}
use Rattle.store_chains.proofs.pop.Goals as goal

pub cell-at-requires : goal.cell-at-requires
cell-at-requires c =
    let (ch, i, l, s, e) = c.requires in
    let h = popped_record _ _ ch s i l e in
    (h.least, omega (arith, h.most, h.inside.few), omega arith)

pub offset_bounds-s-at : goal.offset_bounds-s-at
offset_bounds-s-at c =
    let (ch, i, l, s, e) = c.requires in
    let h = popped_record _ _ ch s i l e in
    omega (arith, h.most, h.inside.few, h.inside.room)

pub bounds-s-at : goal.bounds-s-at
bounds-s-at c =
    let (ch, i, l, s, e) = c.requires in
    let h = popped_record _ _ ch s i l e in
    omega (arith, h.most, h.inside.few, h.inside.room)

pub returns : goal.returns
returns c =
    let (ch, i, l, s, e) = c.requires in
    let at = c.cell-at.ensures.value in
    record {
      kept = (popped _ _ ch s i l e _ at).0;
      by_index = λ ch i l s e. (popped_first _ _ ch s i l e, (popped _ _ ch s i l e _ at).1);
    }
