-- `sheet_lines::rows::put_row` meets its contract: the rows before a group are passed over.
use mathlib.Core.Path.{refl}
use mathlib.Core.List.{[]}
use Rattle.sheet_lines.specs.Rows.{rows0, rows1, rows2}
use Rattle.sheet_lines.proofs.Table.{row_here, row-behind, no_row}
use native.Mathlib.Omega.{arith}
use Rattle.sheet_lines.proofs.rows.put_row.Goals as goal

pub returns-then-k-lt16 : goal.returns-then-k-lt16
unfolding rows0
returns-then-k-lt16 c =
    record {
      put = rw (row_here rows0 _ _ c.if-k-lt16.true) c.put_group.ensures.put;
      upper_bound = c.put_group.ensures.upper_bound;
    }

pub returns-then-k1-lt105 : goal.returns-then-k1-lt105
unfolding rows0 rows1
returns-then-k1-lt105 c =
    record {
      put = rw (row-behind rows0 _ _ 16 refl c.if-k-lt16.false, row_here rows1 _ _ c.if-k1-lt105.true) c.put_group-then-k1-lt105.ensures.put;
      upper_bound = c.put_group-then-k1-lt105.ensures.upper_bound;
    }

pub returns-then-k2-lt11 : goal.returns-then-k2-lt11
unfolding rows0 rows1 rows2
returns-then-k2-lt11 c =
    record {
      put = rw (row-behind rows0 _ _ 16 refl c.if-k-lt16.false, row-behind rows1 _ _ 105 refl c.if-k1-lt105.false, row_here rows2 _ _ c.if-k2-lt11.true) c.put_group-then-k2-lt11.ensures.put;
      upper_bound = c.put_group-then-k2-lt11.ensures.upper_bound;
    }

pub returns : goal.returns
unfolding rows0 rows1 rows2
returns c =
    record {
      put = no_row _ _ _ _ (rw (row-behind rows0 _ _ 16 refl c.if-k-lt16.false, row-behind rows1 _ _ 105 refl c.if-k1-lt105.false, row-behind rows2 [] _ 11 refl c.if-k2-lt11.false));
      upper_bound = omega arith;
    }
