-- `key_form::kind_number` meets its contract.
use Rattle.std.proofs.Common.{sym}
use Rattle.book.proofs.Slots.{kind_number_of, kind_number_last}
use Rattle.key_form.proofs.kind_number.Goals as goal

pub returns-then-word-gt2 : goal.returns-then-word-gt2
returns-then-word-gt2 c = sym (kind_number_last _ c.if-word-gt2.true)

pub returns : goal.returns
returns c = sym (kind_number_of _ c.if-word-gt2.false)
