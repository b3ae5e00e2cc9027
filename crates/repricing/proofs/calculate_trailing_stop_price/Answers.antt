-- `repricing::calculate_trailing_stop_price` meets its contract: each way out is a case of the preview.
use mathlib.Core.Path.{◌≡◌, sym, ap, ◌∙◌}
use Rattle.stop_terms.specs.Terms.{candidate, told_candidate}
use Rattle.repricing.proofs.Preview.{preview_still, preview-beyond, preview_kept, preview-adjusted}
use Rattle.repricing.proofs.calculate_trailing_stop_price.Goals as goal
use Rattle.std.specs.Prelude.{Some}

pub returns-then-not-is_behind : goal.returns-then-not-is_behind
returns-then-not-is_behind c = sym (preview_still _ _ _ _ _ (sym c.is_behind.ensures ∙ c.if-not-is_behind.true))

pub returns-in_default : goal.returns-in_default
unfolding told_candidate
returns-in_default c = sym (preview-beyond _ _ _ _ _
    (sym c.candidate_at.ensures ∙ ap told_candidate c.in_default.is))

pub returns-then-not-is_behind-2 : goal.returns-then-not-is_behind-2
unfolding told_candidate
returns-then-not-is_behind-2 c =
    let a = c.args in
    let e : candidate a.side a.trail_amount
    a.current_market_price.0 ≡ Some c.in-Some.stop.0 =
    sym c.candidate_at.ensures ∙ ap told_candidate c.in-Some.is in
    sym (preview_kept _ _ _ _ _ _ e (sym c.is_behind-2.ensures ∙ c.if-not-is_behind-2.true))

pub returns : goal.returns
unfolding told_candidate
returns c =
    let a = c.args in
    let e : candidate a.side a.trail_amount
    a.current_market_price.0 ≡ Some c.in-Some.stop.0 =
    sym c.candidate_at.ensures ∙ ap told_candidate c.in-Some.is in
    sym (preview-adjusted _ _ _ _ _ _
    (sym c.is_behind.ensures ∙ c.if-not-is_behind.false) e
    (sym c.is_behind-2.ensures ∙ c.if-not-is_behind-2.false))
