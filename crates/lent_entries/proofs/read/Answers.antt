-- `read` meets its contract: in a turn the words of the entry at the index are put there.
use Rattle.std.proofs.Common.{arith, sym, []}
use Rattle.walks.proofs.Written.{upto_none, upto_next}
use Rattle.lent_entries.proofs.read.Goals as goal

pub loop-i-init : goal.loop-i-init
loop-i-init g c = sym (upto_none g.T.InWords.handed (g.T.Recorded.of_words []) c.args.list.now c.args.words.now)

pub loop-i-preserved : goal.loop-i-preserved
loop-i-preserved g c =
    rw (c.put.ensures, c.entry_at.ensures, c.loop-i.invariant)
    (upto_next g.T.InWords.handed (g.T.Recorded.of_words []) c.args.list.now c.args.words.now c.loop-i.i (omega arith) (omega arith))
