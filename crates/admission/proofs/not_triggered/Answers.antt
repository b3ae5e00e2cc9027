-- `admission::not_triggered` meets its contract.
use Rattle.book.specs.Store.{not_triggered}
use Rattle.admission.proofs.not_triggered.Goals as goal

pub returns-in_default : goal.returns-in_default
unfolding not_triggered
returns-in_default c = rw c.in_default.is

pub returns : goal.returns
unfolding not_triggered
returns c = cc
