-- `trial_prices::electing_word` meets its contract: the loop keeps `Built`.
use mathlib.Core.Path.{sym, ◌∙◌}
use native.Mathlib.Omega.{arith}
use Rattle.trial_prices.proofs.Electing.{built_start, built_room, built_next, built_end}
use Rattle.trial_prices.proofs.electing_word.Goals as goal

pub overflow_mul-word : goal.overflow_mul-word
overflow_mul-word c =
    omega (arith, built_room _ _ c.loop-j.invariant c.requires (omega arith))

pub overflow_add-word : goal.overflow_add-word
overflow_add-word c =
    omega (arith, built_room _ _ c.loop-j.invariant c.requires (omega arith))

pub loop-j-preserved-then-elected_by : goal.loop-j-preserved-then-elected_by
loop-j-preserved-then-elected_by c =
    built_next _ _ c.loop-j.invariant (omega arith) _
    (rw (sym c.elected_by.ensures ∙ c.if-elected_by.true))

pub loop-j-preserved : goal.loop-j-preserved
loop-j-preserved c =
    built_next _ _ c.loop-j.invariant (omega arith) _
    (rw (sym c.elected_by.ensures ∙ c.if-elected_by.false) (omega arith))

pub returns : goal.returns
returns c = built_end _ _ c.loop-j.invariant (omega arith)

pub loop-j-init : goal.loop-j-init
loop-j-init c = built_start _ _
