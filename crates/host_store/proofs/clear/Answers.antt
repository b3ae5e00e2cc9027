-- `host_store::clear` meets its contract.
use mathlib.Core.Path.{ap, refl, ◌∙◌}
use Rattle.host_words.proofs.Known.{is_known, is-unknown}
use Rattle.host_words.specs.Answers.{number}
use Rattle.host_store.proofs.clear.Goals as goal

pub returns : goal.returns
returns c =
    let known = is_known c.path_known.ensures c.if-not-path_known.false in
    rw (known, ← c.path_of-before.ensures) (
      c.of_layout.ensures ∙ ap number c.clear-cleared.ensures.answer_value,
      c.clear-cleared.ensures.s_after,
      rw c.clear-cleared.ensures.path_value at c.path_words.ensures,
    )

pub returns-then-not-path_known : goal.returns-then-not-path_known
unfolding number
returns-then-not-path_known c = rw (is-unknown c.path_known.ensures c.if-not-path_known.true) (refl, refl, refl)
