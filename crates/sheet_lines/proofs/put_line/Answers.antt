-- `sheet_lines::put_line` meets its contract: the row, and the line feed behind it.
use Rattle.text_buffer.proofs.Writing.{put_then_byte}
use Rattle.sheet_lines.specs.Lines.{line_of}
use Rattle.sheet_lines.proofs.put_line.Goals as goal

pub returns : goal.returns
unfolding line_of
returns c = put_then_byte _ _ c.put_row-next.ensures.put c.put_byte.ensures
