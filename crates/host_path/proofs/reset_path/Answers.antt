-- `host_path::reset_path` meets its contract.
use mathlib.Core.Path.{refl}
use Rattle.host_words.proofs.Known.{is_known, is-unknown}
use Rattle.host_words.specs.Answers.{number}
use Rattle.host_path.proofs.reset_path.Goals as goal

pub returns : goal.returns
unfolding number
returns c =
    let known = is_known c.path_known.ensures c.if-not-path_known.false in
    rw (known, ← c.path_of-open.ensures) (refl, rw c.closed-after.ensures at c.path_words.ensures)

pub returns-then-not-path_known : goal.returns-then-not-path_known
unfolding number
returns-then-not-path_known c = rw (is-unknown c.path_known.ensures c.if-not-path_known.true) (refl, refl)
