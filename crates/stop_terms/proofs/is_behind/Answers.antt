-- `stop_terms::is_behind` meets its contract: each arm knows the side.
use Rattle.stop_terms.specs.Terms.{behind}
use Rattle.stop_terms.proofs.is_behind.Goals as goal

pub returns-in-Sell : goal.returns-in-Sell
unfolding behind
returns-in-Sell c = rw c.in-Sell.is

pub returns-in-Buy : goal.returns-in-Buy
unfolding behind
returns-in-Buy c = rw c.in-Buy.is
