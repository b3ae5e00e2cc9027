-- `text_numbers::runs::put_numbers` meets its contract: what is left, put behind what is there, is the whole.
use Prim.Native.Nat.{◌+◌, ◌-◌}
use mathlib.Core.Path.{◌≡◌, sym, ◌∙◌}
use native.Mathlib.Omega.{arith}
use Rattle.text_numbers.proofs.Counts.{numbers_turn, numbers_end}
use borrow.Author.Rules.{rules}
use Rattle.text_numbers.proofs.runs.put_numbers.Goals as goal

pub loop-i-preserved : goal.loop-i-preserved
loop-i-preserved c =
    let n = c.number_at-n.ensures.0 in
    let one : c.args.at + c.args.count - (c.loop-i.i + 1) ≡ c.args.at + c.args.count - c.loop-i.i - 1 = omega arith in
    (search rules, rw (one, n) (sym (numbers_turn _ _ _ _ _ _ (omega arith) (rw n at c.put_number.ensures)) ∙ c.loop-i.invariant.1))

pub returns : goal.returns
returns c = sym (numbers_end (c.args.at + c.args.count - c.loop-i.i) _ _ _ _ (omega arith)) ∙ c.loop-i.invariant.1
