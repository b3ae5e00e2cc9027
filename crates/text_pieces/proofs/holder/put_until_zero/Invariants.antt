-- `text_pieces::holder::put_until_zero` meets its contract: what is left to put stands behind what was put.
use Prim.Native.Nat.{◌+◌}
use lib.ListN.{drop}
use Rattle.text_buffer.proofs.Writing.{Left}
use Rattle.text_pieces.specs.Pieces.{until_zero}
use Rattle.text_pieces.proofs.holder.put_until_zero.Given as goal

abbrev pub invariant-loop-i : goal.invariant-loop-i
invariant-loop-i l = Left l.initial.buf l.at (until_zero l.text) l.buf (l.at + l.i) (until_zero (drop l.i l.text))
