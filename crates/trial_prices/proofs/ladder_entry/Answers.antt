-- `trial_prices::ladder_entry` meets its contract: the set bits of the word are counted, and the zeros below them.
use mathlib.Core.List.{map}
use native.Mathlib.Omega.{arith}
use lib.Count.{ones-le, trailing_le}
use lib.ListN.{length-map}
use Rattle.book.proofs.LadderEntries.{entry_counts}
use Rattle.book.specs.Ladder.{ladder_entry, ladder_words}
use Rattle.pricelevel.specs.Price.{to_price}
use Rattle.trial_prices.proofs.ladder_entry.Goals as goal

pub overflow_cast-count : goal.overflow_cast-count
overflow_cast-count c = omega (arith, ones-le 64 c.electing_word-word.result (omega arith))

pub overflow_cast-first : goal.overflow_cast-first
overflow_cast-first c = omega (arith, trailing_le 64 c.electing_word-word.result)

pub returns : goal.returns
unfolding ladder_entry ladder_words
returns c =
    let x = c.args in
    let counts = entry_counts x.terms (map to_price x.prices.now) (rw length-map c.requires) in
    rw (counts.0, counts.1, c.electing_word-word.ensures)
