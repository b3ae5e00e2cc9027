-- `text_numbers::numbers::number` meets its contract: what is left, folded onto what is read, is the whole.
use mathlib.Core.Path.{◌≡◌}
use lib.ListN.{drop}
use Rattle.std.specs.Prelude.{Ok}
use Rattle.text_numbers.specs.Numbers.{number_from, number_of}
use Rattle.text_numbers.proofs.numbers.number.Given as goal

abbrev pub invariant-loop-b : goal.invariant-loop-b
invariant-loop-b l = number_from (Ok l.n) (drop l.b-index l.text) ≡ number_of l.text
