-- `host_collect::collect` meets its contract.
use mathlib.Core.Path.{refl}
use Rattle.book.specs.Calls.{written}
use Rattle.host_words.proofs.Known.{is_known, is-unknown}
use Rattle.host_words.specs.Answers.{answered, number}
use Rattle.host_collect.proofs.collect.Goals as goal

pub returns : goal.returns
returns c =
    let known = is_known c.selector_known.ensures c.if-not-selector_known.false in
    rw (known, ← c.selector_of.ensures, ← c.collect-collected.ensures.0)
    (c.answer.ensures, c.collect-collected.ensures.1)

pub returns-then-not-selector_known : goal.returns-then-not-selector_known
unfolding number answered written
returns-then-not-selector_known c = rw (is-unknown c.selector_known.ensures c.if-not-selector_known.true) ((refl, refl), refl)
