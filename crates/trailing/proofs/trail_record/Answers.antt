-- `trailing::trail_record` meets its contract.
use native.Mathlib.Omega.{arith}
use lib.ListN.{length-set}
use Rattle.chains.proofs.Cells.{cell_end, cell_plus}
use Rattle.trailing.proofs.TrailedWords.{terms-written, moves_not, moves_so}
use Rattle.trailing.proofs.trail_record.Goals as goal

pub bounds-s-at-2 : goal.bounds-s-at-2
bounds-s-at-2 c =
    let r = c.requires in
    rw length-set (omega (
      arith,
      c.cell-at.ensures.value,
      cell_end _ _ r.least r.most,
      cell_plus c.args.i 4,
      r.inside.room,
    ))

pub returns-then-stop-old : goal.returns-then-stop-old
returns-then-stop-old c =
    let told = c.terms_at-terms.ensures in
    record {
      value = moves_not _ _ _ _ _ told c.trailed-after.ensures c.if-stop-old.true;
      s_after = terms-written _ _ _ _ _ told c.trailed-after.ensures _ c.cell-at.ensures.value;
    }

pub returns : goal.returns
returns c =
    let told = c.terms_at-terms.ensures in
    record {
      value = moves_so _ _ _ _ _ told c.trailed-after.ensures c.if-stop-old.false;
      s_after = terms-written _ _ _ _ _ told c.trailed-after.ensures _ c.cell-at.ensures.value;
    }
