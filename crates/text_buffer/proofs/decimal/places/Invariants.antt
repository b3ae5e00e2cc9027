-- `text_buffer::decimal::places` meets its contract: the digits counted, and those of what is left.
use Prim.Native.Nat.{◌+◌, ◌-◌, ◌*◌, ◌^◌, ◌≤◌}
use mathlib.Core.Path.{◌≡◌}
use Rattle.text_buffer.specs.Digits.{width}
use Rattle.text_buffer.proofs.decimal.places.Given as goal

abbrev pub invariant-loop-k : goal.invariant-loop-k
invariant-loop-k l = (l.k + width (41 - l.k) l.rest ≡ 1 + width 40 l.n) × (l.rest * 10 ^ (l.k - 1) ≤ l.n)
