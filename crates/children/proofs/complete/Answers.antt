-- `children::complete` meets its contract: each turn completes one entry.
use Prim.Native.Nat.{◌-◌}
use mathlib.Core.Path.{◌∙◌}
use native.Mathlib.Omega.{arith}
use Rattle.children.proofs.Completed.{doing_first, doing_next, doing_last, fills-completed}
use Rattle.listing.proofs.Walked.{stored_book_lem}
use Rattle.children.proofs.complete.Goals as goal

pub loop-at-init : goal.loop-at-init
loop-at-init c = doing_first _ _ _ _

pub loop-at-preserved : goal.loop-at-preserved
loop-at-preserved c =
    let (b, r, st) = c.requires.by_index in
    doing_next _ _ _ _ _ _ _ c.loop-at.invariant c.loop-at-test.true
    (rw (← stored_book_lem st) at (c.complete_entry.ensures b r st))

pub shape_of-list : goal.shape_of-list
shape_of-list c = c.loop-at.invariant.size

pub returns : goal.returns
returns c =
    λ b r l0 fs st e q.
    doing_last _ _ _ _ _ _ c.loop-at.invariant c.loop-at-test.false ∙ fills-completed st _ fs _ l0 _ _ c.requires.to_in_bounds e q
