-- `text_buffer::text::put_text` meets its contract: so much of the text stands in the buffer.
use mathlib.Core.Path.{◌≡◌}
use lib.ListN.{take}
use lib.Seq.{sets}
use Rattle.text_buffer.proofs.text.put_text.Given as goal

abbrev pub invariant-loop-i : goal.invariant-loop-i
invariant-loop-i l = (l.buf ≡ sets l.initial.buf l.at (take l.i l.text))
