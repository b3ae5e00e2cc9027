-- `host_terms::elected_by` meets its contract.
use Rattle.host_words.proofs.Known.{is_known, is-unknown}
use Rattle.host_terms.proofs.elected_by.Goals as goal

pub returns : goal.returns
returns c =
    let known = is_known c.terms_known.ensures c.if-not-terms_known.false in
    rw (known, ← c.terms_of-of.ensures) (rw c.elected_by.ensures at c.flag.ensures)

pub returns-then-not-terms_known : goal.returns-then-not-terms_known
returns-then-not-terms_known c = rw (is-unknown c.terms_known.ensures c.if-not-terms_known.true)
