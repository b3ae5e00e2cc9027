-- `stored_stops::side_from` meets its contract.
use mathlib.Core.Path.{sym}
use native.Mathlib.Omega.{arith}
use Rattle.book.specs.Words.{side_from}
use Rattle.store_words.proofs.StoredNumbers.{side_from-beyond}
use Rattle.stored_stops.proofs.side_from.Goals as goal

pub returns-in-0 : goal.returns-in-0
unfolding side_from
returns-in-0 c = rw c.in-0.is

pub returns-in_default : goal.returns-in_default
returns-in_default c = sym (side_from-beyond _ (omega arith))
