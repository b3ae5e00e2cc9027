-- `host_terms::trailed` meets its contract.
use mathlib.Core.Path.{refl}
use Rattle.host_words.proofs.Known.{is_known, is-unknown}
use Rattle.host_words.specs.Answers.{answered, number}
use Rattle.host_terms.proofs.trailed.Goals as goal

pub returns : goal.returns
unfolding number answered
returns c =
    let known = is_known c.terms_known.ensures c.if-not-terms_known.false in
    rw (known, ← c.terms_of-of.ensures) (refl, rw c.trailed.ensures at c.terms_words.ensures)

pub returns-then-not-terms_known : goal.returns-then-not-terms_known
unfolding number answered
returns-then-not-terms_known c = rw (is-unknown c.terms_known.ensures c.if-not-terms_known.true) (refl, refl)
