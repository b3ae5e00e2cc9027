-- `text_buffer::decimal::put_in_base` meets its contract: the digits that are left stand before those written.
use Prim.Native.Nat.{◌%◌}
use mathlib.Core.Path.{sym, ◌∙◌}
use native.Mathlib.Omega.{arith}
use Rattle.text_buffer.proofs.Digits.{digits_turn, digits_end}
use Rattle.text_buffer.proofs.decimal.put_in_base.Goals as goal

pub loop-i-preserved : goal.loop-i-preserved
loop-i-preserved g c f is =
    digits_turn f c.args.base _ _ _ _ _ c.loop-i-test.true (rw (is (c.loop-i.rest % c.args.base) _ (omega arith) c.letter.ensures) at c.put_byte.ensures)
    ∙ c.loop-i.invariant f is

pub returns : goal.returns
returns g c f is = sym (digits_end f c.args.base _ _ _ _ c.loop-i-test.false) ∙ c.loop-i.invariant f is
