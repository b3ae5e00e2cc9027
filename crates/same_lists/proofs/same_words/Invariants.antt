-- `same_lists::same_words` meets its contract: the words before i are the same.
use lib.Dec.{eqb}
use Rattle.same_lists.proofs.Compared.{Compared}
use Rattle.same_lists.proofs.same_words.Given as goal

abbrev pub invariant-loop-i : goal.invariant-loop-i
invariant-loop-i l = Compared eqb 0 l.a l.b l.i
