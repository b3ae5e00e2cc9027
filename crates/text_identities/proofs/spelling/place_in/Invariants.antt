-- `text_identities::spelling::place_in` meets its contract: the run that is left ends where the whole one does.
use Prim.Native.Nat.{◌+◌}
use mathlib.Core.Path.{◌≡◌}
use mathlib.Core.Bool.{not}
use lib.Dec.{eqb}
use lib.ListN.{drop}
use Rattle.text_words.specs.Words.{run}
use Rattle.text_identities.proofs.spelling.place_in.Given as goal

abbrev pub invariant-loop-i : goal.invariant-loop-i
invariant-loop-i l = l.i + run (λ x. not (eqb x l.b)) (drop l.i l.text) ≡ run (λ x. not (eqb x l.b)) l.text
