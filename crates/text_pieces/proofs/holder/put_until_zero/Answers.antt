-- `text_pieces::holder::put_until_zero` meets its contract: what is left to put stands behind what was put.
use mathlib.Core.Path.{◌≡◌}
use lib.ListN.{length}
use native.Mathlib.Omega.{arith}
use Rattle.text_buffer.proofs.Writing.{left_none}
use Rattle.text_pieces.proofs.Pieces.{until_start, until_turn, until_zero_lem, until_end}
use Rattle.text_pieces.proofs.holder.put_until_zero.Goals as goal

pub loop-i-init : goal.loop-i-init
loop-i-init c = until_start c.args.buf.now c.args.text.now c.args.at

pub returns-then-b-eq0-clause-put : goal.returns-then-b-eq0-clause-put
returns-then-b-eq0-clause-put c = left_none c.loop-i.invariant (until_zero_lem _ _ c.loop-i-test.true c.if-b-eq0.true)

pub loop-i-preserved : goal.loop-i-preserved
loop-i-preserved c = until_turn _ _ _ _ c.args.text.now c.args.at c.loop-i.i c.loop-i-test.true c.if-b-eq0.false c.loop-i.invariant c.put_byte.ensures

pub returns-clause-put : goal.returns-clause-put
returns-clause-put c =
    let all : length c.args.text.now ≡ c.loop-i.i = omega arith in
    rw all (left_none c.loop-i.invariant (until_end _ _ c.loop-i-test.false))
