-- `stop_protection::StopProtection::limit_price` meets its contract, by what `limit_for` ensures.
use Rattle.stop_protection.proofs.StopProtection.limit_price.Goals as goal

-- CLAUSES ['result_value', 'low_bound']
pub returns : goal.returns
returns c = c.limit_for.ensures
