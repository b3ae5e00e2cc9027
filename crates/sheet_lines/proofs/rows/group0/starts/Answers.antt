-- `sheet_lines::rows::group0::starts` meets its contract: the places are those of the rows.
use mathlib.Core.Path.{refl}
use Rattle.text_parts.specs.Parts.{starts}
use Rattle.sheet_lines.specs.Rows.{rows0}
use Rattle.sheet_lines.proofs.rows.group0.starts.Goals as goal

pub returns : goal.returns
unfolding rows0 starts
returns c = refl
