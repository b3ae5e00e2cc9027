-- `stop_terms::StopTerms::elected_by` meets its contract: each arm knows the side.
use Rattle.stop_terms.specs.Terms.{elects, elected_at}
use Rattle.stop_terms.proofs.StopTerms.elected_by.Goals as goal

pub returns-in-Sell : goal.returns-in-Sell
unfolding elects elected_at
returns-in-Sell c = rw c.in-Sell.is

pub returns-in-Buy : goal.returns-in-Buy
unfolding elects elected_at
returns-in-Buy c = rw c.in-Buy.is
