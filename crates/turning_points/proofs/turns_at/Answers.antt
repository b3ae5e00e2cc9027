-- `turning_points::turns_at` meets its contract: after a rise, after a fall, and on a level stretch at the start.
use mathlib.Core.Bool.{Bool, true, false, ◌||◌}
use mathlib.Core.Path.{◌≡◌, refl, sym}
use native.Mathlib.Omega.{arith}
use borrow.Author.Tests.{lt-ltb, le-ltb}
use Rattle.book.specs.TurningPoints.{turns_at}
use Rattle.turning_points.proofs.turns_at.Goals as goal

-- `turning_points::turns_at` meets its contract: after a rise, after a fall, and on a level stretch at the start.
or-false : (b : Bool) → (b || false) ≡ b
or-false true = refl
or-false false = refl

pub returns-then-start-here : goal.returns-then-start-here
unfolding turns_at
returns-then-start-here c =
    let g = c.args in
    let h = c.if-start-here.true in
    rw (lt-ltb g.start g.here h, le-ltb g.here g.start (omega arith)) (sym (or-false _))

pub returns-then-here-start : goal.returns-then-here-start
unfolding turns_at
returns-then-here-start c =
    let g = c.args in
    let h = c.if-here-start.true in
    rw (lt-ltb g.here g.start h, le-ltb g.start g.here (omega arith))

pub returns : goal.returns
unfolding turns_at
returns c =
    let g = c.args in
    rw (le-ltb g.here g.start c.if-here-start.false, le-ltb g.start g.here c.if-start-here.false)
