-- `sheet_lines::rows::group0::put_group` meets its contract: a row stands in the text of the rows between its places.
use Rattle.sheet_lines.specs.Rows.{rows0}
use Rattle.text_parts.proofs.Parts.{rows_begin, rows_line}
use Rattle.sheet_lines.proofs.rows.group0.put_group.Goals as goal

pub put_part-requires-clause-begins : goal.put_part-requires-clause-begins
unfolding rows0
put_part-requires-clause-begins c =
    rw (c.text-text.ensures, c.starts-starts.ensures) (rows_begin rows0 c.args.k c.requires.k_bound)

pub returns : goal.returns
unfolding rows0
returns c =
    record {
      put = rw (c.text-text.ensures, c.starts-starts.ensures, rows_line rows0 c.args.k c.requires.k_bound) at c.put_part.ensures.put;
      upper_bound = c.put_part.ensures.upper_bound;
    }
