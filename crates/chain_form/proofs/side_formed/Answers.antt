-- `chain_form::side_formed` meets its contract: the walks take as many steps as the side has records.
use mathlib.Core.Path.{sym, ◌∙◌}
use Rattle.form_check.specs.Check.{side_formed}
use Rattle.book.proofs.Tests.{and_fails, and_passes}
use Rattle.form_check.proofs.Walks.{chain-counted}
use Rattle.chain_form.proofs.side_formed.Goals as goal

pub returns-then-not-walk_formed : goal.returns-then-not-walk_formed
unfolding side_formed
returns-then-not-walk_formed c =
    and_fails _ _ (sym (chain-counted _ _ _ _ _ c.requires.count_value c.walk_formed.ensures)
    ∙ c.if-not-walk_formed.true)

pub returns : goal.returns
unfolding side_formed
returns c =
    let count = c.requires.count_value in
    and_passes _ _ _ (sym (chain-counted _ _ _ _ _ count c.walk_formed.ensures)
    ∙ c.if-not-walk_formed.false)
    (chain-counted _ _ _ _ _ count c.walk_formed-2.ensures)
