-- `host_terms::inconsistency` meets its contract.
use Rattle.host_words.proofs.Known.{is_known, is-unknown}
use Rattle.host_terms.proofs.inconsistency.Goals as goal

pub returns : goal.returns
returns c =
    let known = is_known c.terms_known.ensures c.if-not-terms_known.false in
    rw (known, ← c.terms_of-of.ensures) (rw c.inconsistency.ensures at c.of_inconsistency.ensures)

pub returns-then-not-terms_known : goal.returns-then-not-terms_known
returns-then-not-terms_known c = rw (is-unknown c.terms_known.ensures c.if-not-terms_known.true)
