-- `host_path::record_print` meets its contract.
use mathlib.Core.Path.{refl}
use Rattle.host_words.proofs.Known.{is_known, is-unknown}
use Rattle.host_words.specs.Answers.{number}
use Rattle.host_path.proofs.record_print.Goals as goal

pub returns : goal.returns
unfolding number
returns c =
    let known = is_known c.path_known.ensures c.if-not-path_known.false in
    rw (known, ← c.path_of-before.ensures, ← c.last_price_of.ensures)
    (refl, rw c.recorded-after.ensures at c.path_words.ensures)

pub returns-then-not-path_known : goal.returns-then-not-path_known
unfolding number
returns-then-not-path_known c = rw (is-unknown c.path_known.ensures c.if-not-path_known.true) (refl, refl)
