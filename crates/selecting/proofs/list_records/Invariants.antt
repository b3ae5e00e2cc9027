-- `selecting::list_records` meets its contract: i entries are written.
use mathlib.Core.Path.{◌≡◌}
use Rattle.by_sequence.proofs.Listed.{listed}
use Rattle.selecting.specs.Selecting.{entry_words_in}
use Rattle.selecting.proofs.list_records.Given as goal

abbrev pub invariant-loop-i : goal.invariant-loop-i
invariant-loop-i l = l.list ≡ listed (entry_words_in l.s) l.order l.m l.initial.list l.i
