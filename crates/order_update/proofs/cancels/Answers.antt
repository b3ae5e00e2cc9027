-- `order_update::cancels` meets its contract.
use Rattle.book.specs.Store.{cancels}
use Rattle.order_update.proofs.cancels.Goals as goal

pub returns-in-UpdateQuantity : goal.returns-in-UpdateQuantity
unfolding cancels
returns-in-UpdateQuantity c = rw c.in-UpdateQuantity.is

pub returns-in-UpdatePrice : goal.returns-in-UpdatePrice
unfolding cancels
returns-in-UpdatePrice c = rw c.in-UpdatePrice.is

pub returns-in-UpdatePriceAndQuantity : goal.returns-in-UpdatePriceAndQuantity
unfolding cancels
returns-in-UpdatePriceAndQuantity c = rw c.in-UpdatePriceAndQuantity.is

pub returns-in-Replace : goal.returns-in-Replace
unfolding cancels
returns-in-Replace c = rw c.in-Replace.is
