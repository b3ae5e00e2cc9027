-- `sheet_lines::rows::group0::text` meets its contract: the text is that of the rows.
use mathlib.Core.Path.{refl}
use Rattle.text_parts.specs.Parts.{joined}
use Rattle.sheet_lines.specs.Rows.{rows0}
use Rattle.sheet_lines.proofs.rows.group0.text.Goals as goal

pub returns : goal.returns
unfolding rows0 joined
returns c = refl
