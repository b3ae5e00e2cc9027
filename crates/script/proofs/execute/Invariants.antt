-- `script::execute` meets its contract: before each turn the elected have executed up to entry i.
use Prim.Native.Nat.{◌+◌}
use mathlib.Core.List.{List}
use mathlib.Core.Path.{◌≡◌}
use lib.ListN.{length}
use Rattle.book.specs.declared.Elected.{Elected}
use Rattle.script.specs.Execute.{Flags}
use Rattle.script.proofs.Executions.{Progress}
use Rattle.script.proofs.execute.Given as goal

abbrev pub invariant-loop-i : goal.invariant-loop-i
invariant-loop-i l =
    (es : List Elected) → Flags l.list l.from es → l.to ≡ l.from + length es
    → (left : List Elected) × Progress l.list l.to l.script es l.initial.queue l.tail l.queue l.used l.end l.i left
