-- `side_order::other` meets its contract.
use Rattle.book.specs.Steps.{other}
use Rattle.side_order.proofs.other.Goals as goal

pub returns-in-Buy : goal.returns-in-Buy
unfolding other
returns-in-Buy c = rw c.in-Buy.is

pub returns-in-Sell : goal.returns-in-Sell
unfolding other
returns-in-Sell c = rw c.in-Sell.is
