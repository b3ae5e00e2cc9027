-- `text_buffer::text::put_text` meets its contract: so much of the text stands in the buffer.
use Rattle.text_buffer.proofs.Writing.{put_turn}
use Rattle.text_buffer.proofs.text.put_text.Goals as goal

pub loop-i-preserved : goal.loop-i-preserved
loop-i-preserved c = put_turn _ _ _ _ _ _ c.loop-i-test.true c.loop-i.invariant c.put_byte.ensures
