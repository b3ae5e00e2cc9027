-- `host_children::limit_price` meets its contract.
use mathlib.Core.Path.{refl}
use Rattle.host_words.proofs.Known.{is_known, is-unknown}
use Rattle.host_words.specs.Answers.{answered, number}
use Rattle.host_children.proofs.limit_price.Goals as goal

pub returns : goal.returns
unfolding number answered
returns c =
    let known = is_known c.side_known.ensures c.if-not-side_known.false in
    rw (known, ← c.protection_of-protection.ensures, ← c.side_from.ensures)
    (refl, rw c.limit_under-limit.ensures at c.limit_words.ensures)

pub returns-then-not-side_known : goal.returns-then-not-side_known
unfolding number answered
returns-then-not-side_known c = rw (is-unknown c.side_known.ensures c.if-not-side_known.true) (refl, refl)
