-- `text_holders::word_at` meets its contract: what is left, behind what is packed, is the whole.
use Prim.Native.Nat.{◌+◌, ◌-◌}
use mathlib.Core.Path.{◌≡◌, sym, ◌∙◌}
use native.Mathlib.Omega.{arith}
use Rattle.text_holders.specs.Holders.{word_at}
use Rattle.text_holders.proofs.Packing.{packed_turn, packed_end}
use Rattle.text_holders.proofs.word_at.Goals as goal

pub loop-at-init : goal.loop-at-init
loop-at-init c =
    let all : c.args.from + 8 - c.args.from ≡ 8 = omega arith in
    rw all

pub loop-at-preserved : goal.loop-at-preserved
loop-at-preserved c =
    let one : c.args.from + 8 - (c.loop-at.at + 1) ≡ c.args.from + 8 - c.loop-at.at - 1 = omega arith in
    rw (one, c.byte_at.ensures.0) (sym (packed_turn _ _ _ _ (omega arith)) ∙ c.loop-at.invariant)

pub returns : goal.returns
unfolding word_at
returns c = sym (packed_end (c.args.from + 8 - c.loop-at.at) _ _ _ (omega arith)) ∙ c.loop-at.invariant
