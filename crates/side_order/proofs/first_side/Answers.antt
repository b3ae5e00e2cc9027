-- `side_order::first_side` meets its contract.
use Rattle.book.specs.Steps.{first_side}
use Rattle.side_order.proofs.first_side.Goals as goal

pub returns-then-sells : goal.returns-then-sells
unfolding first_side
returns-then-sells c = rw c.if-sells.true

pub returns : goal.returns
unfolding first_side
returns c = rw c.if-sells.false
