-- `stop_terms::tighten` meets its contract, by the laws of the tighter of two prices.
use mathlib.Core.Path.{◌≡◌, sym, ◌∙◌}
use Rattle.stop_terms.specs.Terms.{tightened, told_candidate}
use Rattle.stop_terms.proofs.Terms.{tightened_past, tightened_kept}
use Rattle.stop_terms.proofs.tighten.Goals as goal
use Rattle.std.specs.Prelude.{Some}

pub returns-in_default : goal.returns-in_default
unfolding tightened told_candidate
returns-in_default c = rw c.in_default.is

pub returns-then-is_behind : goal.returns-then-is_behind
unfolding told_candidate
returns-then-is_behind c =
    let e : told_candidate c.args.at ≡ Some c.in-Some.price.0 = cc in
    rw e (sym (tightened_past _ _ _ (sym c.is_behind.ensures ∙ c.if-is_behind.true)))

pub returns : goal.returns
unfolding told_candidate
returns c =
    let e : told_candidate c.args.at ≡ Some c.in-Some.price.0 = cc in
    rw e (sym (tightened_kept _ _ _ (sym c.is_behind.ensures ∙ c.if-is_behind.false)))
