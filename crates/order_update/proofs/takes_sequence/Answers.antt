-- `order_update::takes_sequence` meets its contract.
use Rattle.book.specs.Store.{takes_sequence}
use Rattle.order_update.proofs.takes_sequence.Goals as goal

pub returns-in-UpdateQuantity : goal.returns-in-UpdateQuantity
unfolding takes_sequence
returns-in-UpdateQuantity c = rw c.in-UpdateQuantity.is

pub returns-in-UpdatePrice : goal.returns-in-UpdatePrice
unfolding takes_sequence
returns-in-UpdatePrice c = rw c.in-UpdatePrice.is

pub returns-in-UpdatePriceAndQuantity : goal.returns-in-UpdatePriceAndQuantity
unfolding takes_sequence
returns-in-UpdatePriceAndQuantity c = rw c.in-UpdatePriceAndQuantity.is

pub returns-in-Replace : goal.returns-in-Replace
unfolding takes_sequence
returns-in-Replace c = rw c.in-Replace.is
