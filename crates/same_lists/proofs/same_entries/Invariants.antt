-- `same_lists::same_entries` meets its contract: the entries before i are the same.
use mathlib.Core.List.{[]}
use Rattle.book.specs.Lists.{same_list}
use Rattle.same_lists.proofs.Compared.{Compared}
use Rattle.same_lists.proofs.same_entries.Given as goal

abbrev pub invariant-loop-i : goal.invariant-loop-i
invariant-loop-i g l = Compared same_list [] l.a l.b l.i
