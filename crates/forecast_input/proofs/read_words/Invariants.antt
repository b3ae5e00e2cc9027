-- `forecast_input::read_words` meets its contract. The invariant: the first k words are read.
use mathlib.Core.Path.{◌≡◌}
use lib.ListN.{take}
use Rattle.forecast_input.specs.Input.{words_at}
use Rattle.forecast_input.proofs.read_words.Given as goal

abbrev pub invariant-loop-k : goal.invariant-loop-k
invariant-loop-k l =
    take l.k l.words ≡ words_at l.bytes l.i l.k
