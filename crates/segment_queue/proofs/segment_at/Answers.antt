-- `segment_queue::segment_at` meets its contract.
use mathlib.Core.Path.{sym}
use native.Mathlib.Omega.{arith}
use Rattle.script.proofs.Queue.{queued_end, queued_first}
use Rattle.segment_queue.proofs.segment_at.Goals as goal

pub returns-then-head-tail : goal.returns-then-head-tail
returns-then-head-tail c = λ q h. sym (queued_end q h c.if-head-tail.true)

pub bounds-queue-head : goal.bounds-queue-head
bounds-queue-head c = let (q, h) = c.requires in omega (arith, h.ends, h.room, c.if-head-tail.false)

pub returns : goal.returns
returns c = λ q h. sym (queued_first q _ h c.if-head-tail.false)
