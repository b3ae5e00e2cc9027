-- `host_path::take_path` meets its contract.
use mathlib.Core.Path.{refl}
use Rattle.host_words.proofs.Known.{is_known, is-unknown}
use Rattle.host_words.specs.Answers.{answered, number}
use Rattle.host_path.proofs.take_path.Goals as goal

pub returns : goal.returns
unfolding number answered
returns c =
    let known = is_known c.path_known.ensures c.if-not-path_known.false in
    rw (known, ← c.path_of-before.ensures, ← c.last_price_of-last.ensures)
    ((refl, rw c.taken-taken.ensures.segment_value at c.segment_words.ensures), rw c.taken-taken.ensures.path_value at c.path_words.ensures)

pub returns-then-not-path_known : goal.returns-then-not-path_known
unfolding number answered
returns-then-not-path_known c = rw (is-unknown c.path_known.ensures c.if-not-path_known.true) ((refl, refl), refl)
