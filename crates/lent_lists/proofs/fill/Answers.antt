-- `fill` meets its contract: in a turn the entry at the index is read from its words, and stored there.
use Rattle.std.proofs.Common.{arith, sym, []}
use Rattle.walks.proofs.Written.{upto_none, upto_next}
use Rattle.lent_lists.proofs.fill.Goals as goal

pub loop-i-init : goal.loop-i-init
loop-i-init g c = sym (upto_none g.T.Recorded.of_words [] c.args.words.now c.args.list.now)

pub loop-i-preserved : goal.loop-i-preserved
loop-i-preserved g c =
    rw (c.place.ensures, c.at.ensures, c.loop-i.invariant)
    (upto_next g.T.Recorded.of_words [] c.args.words.now c.args.list.now c.loop-i.i (omega arith) (omega arith))
