-- `text_identities::spelling::spelled_by` meets its contract: what is left, folded onto what is read, is the whole.
use mathlib.Core.Path.{◌≡◌}
use lib.ListN.{drop}
use Rattle.std.specs.Prelude.{Some}
use Rattle.text_identities.specs.Identities.{spelled, spelled_from}
use Rattle.text_identities.proofs.spelling.spelled_by.Given as goal

abbrev pub invariant-loop-i : goal.invariant-loop-i
invariant-loop-i l = spelled_from (Some l.n) (drop l.i l.pattern) (drop l.i l.text) ≡ spelled_from (Some (spelled 0 0)) l.pattern l.text
