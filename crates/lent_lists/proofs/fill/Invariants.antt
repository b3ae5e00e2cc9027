-- Up to the index each entry of the list is read from its words; later ones are as they were.
use Rattle.std.proofs.Common.{◌≡◌, []}
use Rattle.walks.proofs.Written.{upto}
use Rattle.lent_lists.proofs.fill.Given as goal

abbrev pub invariant-loop-i : goal.invariant-loop-i
invariant-loop-i g l = l.list ≡ upto g.T.Recorded.of_words [] l.words l.initial.list l.i
