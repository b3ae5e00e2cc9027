-- `text_numbers::runs::put_number` meets its contract: past the end nothing is set.
use mathlib.Core.Path.{sym}
use lib.Seq.{set_out}
use Rattle.text_numbers.proofs.runs.put_number.Goals as goal

pub returns-else-at-list : goal.returns-else-at-list
returns-else-at-list c = sym (set_out _ _ _ c.if-at-list.false)
