-- `key_form::all_differ` meets its contract: the pairs are tested key by key.
use Rattle.std.proofs.Common.{sym, ◌∙◌}
use Rattle.form_check.proofs.Keys.{all_differ_keys}
use Rattle.book.proofs.Tests.{and_fails, and_passes}
use Rattle.key_form.proofs.all_differ.Goals as goal

pub returns-then-not-keys_differ : goal.returns-then-not-keys_differ
returns-then-not-keys_differ c = and_fails _ _ (sym c.keys_differ.ensures ∙ c.if-not-keys_differ.true) ∙ all_differ_keys _ _

pub returns : goal.returns
returns c =
    and_passes _ _ _ (sym c.keys_differ.ensures ∙ c.if-not-keys_differ.false) c.keys_differ-2.ensures
    ∙ all_differ_keys _ _
