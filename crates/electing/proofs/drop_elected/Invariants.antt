-- `electing::drop_elected` meets its contract: the loop keeps in front of the rest what it has passed and not dropped.
use Rattle.electing.proofs.DropPass.{Passing}
use Rattle.electing.proofs.drop_elected.Given as goal

abbrev pub invariant-loop-price : goal.invariant-loop-price
invariant-loop-price l = Passing l.n l.price l.initial.s l.link l.initial.p l.s l.p l.left

abbrev pub decreases-loop-price : goal.decreases-loop-price
decreases-loop-price l = l.left
