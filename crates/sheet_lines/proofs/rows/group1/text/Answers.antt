-- `sheet_lines::rows::group1::text` meets its contract: the text is that of the rows.
use mathlib.Core.Path.{refl}
use Rattle.text_parts.specs.Parts.{joined}
use Rattle.sheet_lines.specs.Rows.{rows1}
use Rattle.sheet_lines.proofs.rows.group1.text.Goals as goal

pub returns : goal.returns
unfolding rows1 joined
returns c = refl
