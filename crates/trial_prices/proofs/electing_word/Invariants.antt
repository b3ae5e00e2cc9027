-- `trial_prices::electing_word` meets its contract: the loop keeps `Built`.
use Rattle.trial_prices.proofs.Electing.{Built}
use Rattle.trial_prices.proofs.electing_word.Given as goal

abbrev pub invariant-loop-j : goal.invariant-loop-j
invariant-loop-j l = Built l.terms l.prices l.word l.j
