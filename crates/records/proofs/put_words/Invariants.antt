-- `records::put_words` meets its contract.
use Rattle.chains.proofs.Copies.{Copied}
use Rattle.records.proofs.put_words.Given as goal

abbrev pub invariant-loop-k : goal.invariant-loop-k
invariant-loop-k l = Copied l.initial.s l.words l.at l.k l.s
