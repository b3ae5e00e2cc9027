-- `entry_words::pending_word` meets its contract: by whether the child is pending.
use native.Mathlib.Omega.{arith}
use Rattle.entry_words.specs.Handed.{pending_word}
use Rattle.entry_words.proofs.pending_word.Goals as goal

pub returns-then-pending : goal.returns-then-pending
unfolding pending_word
returns-then-pending c = rw c.if-pending.true

pub returns : goal.returns
unfolding pending_word
returns c = rw c.if-pending.false (omega arith)
