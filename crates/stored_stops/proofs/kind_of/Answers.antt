-- `stored_stops::kind_of` meets its contract.
use mathlib.Core.Path.{sym}
use native.Mathlib.Omega.{arith}
use Rattle.book.specs.Words.{kind_of}
use Rattle.store_words.proofs.StoredNumbers.{kind_of-beyond}
use Rattle.stored_stops.proofs.kind_of.Goals as goal

pub returns-in-0 : goal.returns-in-0
unfolding kind_of
returns-in-0 c = rw c.in-0.is

pub returns-in-1 : goal.returns-in-1
unfolding kind_of
returns-in-1 c = rw c.in-1.is

pub returns-in_default : goal.returns-in_default
returns-in_default c = sym (kind_of-beyond _ (omega arith) (omega arith))
