-- `selecting::keep_selected` meets its contract: the loop keeps `Keeping`.
use Rattle.book.specs.Collect.{selects}
use Rattle.book.specs.Words.{entry_at}
use Rattle.selecting.proofs.Keeping.{Keeping}
use Rattle.selecting.proofs.keep_selected.Given as goal

abbrev pub invariant-loop-i : goal.invariant-loop-i
invariant-loop-i l = Keeping (λ x. selects l.selector (entry_at l.s x)) l.initial.order l.k l.order l.m l.i
