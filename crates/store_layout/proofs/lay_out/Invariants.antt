-- `store_layout::lay_out` meets its contract: before each turn the records before i are laid out.
use Rattle.store_words.proofs.EmptyWords.{Laid}
use Rattle.store_layout.proofs.lay_out.Given as goal

abbrev pub invariant-loop-i : goal.invariant-loop-i
invariant-loop-i l = Laid l.n l.tick l.initial.s l.i l.s
