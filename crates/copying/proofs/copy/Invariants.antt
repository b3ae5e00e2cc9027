-- `copying::copy` meets its contract: the elements before i are copied.
use mathlib.Core.Path.{◌≡◌}
use lib.ListN.{take}
use Rattle.copying.proofs.copy.Given as goal

abbrev pub invariant-loop-i : goal.invariant-loop-i
invariant-loop-i l = take l.i l.a ≡ take l.i l.t
