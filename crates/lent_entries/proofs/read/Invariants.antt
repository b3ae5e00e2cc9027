-- Up to the index each entry of the words is put from the list; later ones are as they were.
use Rattle.std.proofs.Common.{◌≡◌, []}
use Rattle.walks.proofs.Written.{upto}
use Rattle.lent_entries.proofs.read.Given as goal

abbrev pub invariant-loop-i : goal.invariant-loop-i
invariant-loop-i g l = l.words ≡ upto g.T.InWords.handed (g.T.Recorded.of_words []) l.list l.initial.words l.i
