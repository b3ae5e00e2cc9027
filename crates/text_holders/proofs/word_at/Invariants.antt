-- `text_holders::word_at` meets its contract: what is left, behind what is packed, is the whole.
use Prim.Native.Nat.{◌+◌, ◌-◌}
use mathlib.Core.Path.{◌≡◌}
use Rattle.text_holders.specs.Holders.{packed}
use Rattle.text_holders.proofs.word_at.Given as goal

abbrev pub invariant-loop-at : goal.invariant-loop-at
invariant-loop-at l = packed (l.from + 8 - l.at) l.text l.at l.v ≡ packed 8 l.text l.from 0
