-- `key_form::same_key` meets its contract: the key is known in each part, and each return of the identities is a test
-- that fails, or the last.
use Rattle.std.proofs.Common.{sym, ◌∙◌}
use Rattle.book.specs.Words.{entry_at}
use Rattle.form_check.specs.Keys.{same_key}
use Rattle.form_check.proofs.Keys.{same_id_low, same_id_high, same_id_kind}
use Rattle.key_form.proofs.same_key.Goals as goal

pub returns-in_default : goal.returns-in_default
unfolding same_key
returns-in_default c = rw (c.in_default.is, c.word.ensures, c.word-in_default.ensures)

pub returns-then-word : goal.returns-then-word
unfolding same_key entry_at
returns-then-word c =
    rw c.in-Identity.is
    (sym (same_id_low _ _ (λ e. c.if-word.true
    (c.word-2.ensures ∙ e ∙ sym c.word-3.ensures))))

pub returns-then-word-2 : goal.returns-then-word-2
unfolding same_key entry_at
returns-then-word-2 c =
    rw c.in-Identity.is
    (sym (same_id_high _ _
    (λ e. c.if-word-2.true (c.word-4.ensures ∙ e ∙ sym c.word-5.ensures))))

pub returns : goal.returns
unfolding same_key entry_at
returns c =
    rw (
      c.in-Identity.is,
      c.kind_number.ensures,
      c.kind_number-2.ensures,
      c.word-6.ensures,
      c.word-7.ensures,
    )
    (sym (same_id_kind _ _ (sym c.word-2.ensures ∙ c.if-word.false ∙ c.word-3.ensures)
    (sym c.word-4.ensures ∙ c.if-word-2.false ∙ c.word-5.ensures)))
