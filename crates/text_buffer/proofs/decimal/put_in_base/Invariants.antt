-- `text_buffer::decimal::put_in_base` meets its contract: the digits that are left stand before those written.
use Prim.Native.Nat.{ℕ, ◌<◌}
use mathlib.Core.Path.{◌≡◌}
use lib.Seq.{sets}
use Rattle.text_buffer.specs.Digits.{digits}
use Rattle.text_buffer.proofs.decimal.put_in_base.Given as goal

abbrev pub invariant-loop-i : goal.invariant-loop-i
invariant-loop-i g l =
    (f : ℕ → ℕ) → ((d b : ℕ) → d < l.base → goal.F-post g l.letter d b → b ≡ f d)
    → sets l.buf l.at (digits f l.base l.i l.rest) ≡ sets l.initial.buf l.at (digits f l.base l.k l.n)
