-- `pending_totals::total_on` meets its contract: the sum so far and that of the records to come are the whole.
use Rattle.store_words.proofs.Sums.{Summed}
use Rattle.pending_totals.proofs.total_on.Given as goal

abbrev pub invariant-loop-i : goal.invariant-loop-i
invariant-loop-i l = Summed l.side l.s l.n l.i l.sum
