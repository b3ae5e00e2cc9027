-- `store_layout::next_free` meets its contract.
use mathlib.Core.Path.{sym}
use native.Mathlib.Omega.{arith}
use Rattle.store_words.proofs.EmptyWords.{next_in-rising, next_in-rising_last}
use Rattle.store_layout.proofs.next_free.Goals as goal

pub returns-then-i-n : goal.returns-then-i-n
returns-then-i-n c = sym (next_in-rising 1 _ _ c.requires (omega arith))

pub returns : goal.returns
returns c = sym (next_in-rising_last 1 _ _ c.requires (omega arith))
