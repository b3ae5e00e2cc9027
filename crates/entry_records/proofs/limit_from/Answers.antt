-- `limit_from` meets its contract: each arm knows the word.
use native.Mathlib.Omega.{arith}
use mathlib.Core.Path.{sym}
use Rattle.entry_records.specs.Records.{limit_from}
use Rattle.entry_records.proofs.EntryWords.{limit_from-beyond}
use Rattle.entry_records.proofs.limit_from.Goals as goal

pub returns-in-0 : goal.returns-in-0
unfolding limit_from
returns-in-0 c = rw c.in-0.is

pub returns-in_default : goal.returns-in_default
returns-in_default c = sym (limit_from-beyond _ _ _ (omega arith))
