-- `pending_totals::pending_quantity` meets its contract.
use Rattle.book.specs.Store.{totals_of}
use Rattle.pending_totals.proofs.pending_quantity.Goals as goal

pub returns : goal.returns
unfolding totals_of
returns c = rw (c.total_on-sell.ensures, c.total_on-buy.ensures)
