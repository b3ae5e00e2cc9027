-- `text_numbers::numbers::number` meets its contract: what is left, folded onto what is read, is the whole.
use mathlib.Core.Path.{sym, ◌∙◌}
use Rattle.std.proofs.lemmas.Result.{err_from_is_err_and}
use Rattle.text_numbers.proofs.Digits.{number_turn, number_fails, number_end}
use Rattle.text_numbers.proofs.numbers.number.Goals as goal

pub returns-in_err-n : goal.returns-in_err-n
returns-in_err-n c =
    let p = err_from_is_err_and c.from_residual.result c.from_residual.ensures.1 in
    rw (p.1, p.2) (sym (number_fails _ _ _ _ c.loop-b-test.true c.in_err-n.ensures) ∙ c.loop-b.invariant)

pub loop-b-preserved : goal.loop-b-preserved
loop-b-preserved c = sym (number_turn _ _ _ _ c.loop-b-test.true c.in_ok-n.ensures) ∙ c.loop-b.invariant

pub returns : goal.returns
returns c = sym (number_end _ _ _ c.loop-b-test.false) ∙ c.loop-b.invariant
