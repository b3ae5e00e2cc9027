-- `stop_terms::StopTerms::trailed` meets its contract, by what its parts ensure.
use mathlib.Core.Path.{sym, ◌∙◌}
use Rattle.stop_terms.proofs.Terms.{trailed_at_still, trailed_at_moved}
use Rattle.stop_terms.proofs.StopTerms.trailed.Goals as goal

pub returns-then-not-is_behind : goal.returns-then-not-is_behind
returns-then-not-is_behind c = sym (trailed_at_still _ _ (sym c.is_behind.ensures ∙ c.if-not-is_behind.true))

pub returns : goal.returns
returns c =
    trailed_at_moved _ _ _ _ (sym c.is_behind.ensures ∙ c.if-not-is_behind.false)
    c.candidate_at.ensures c.tighten.ensures
