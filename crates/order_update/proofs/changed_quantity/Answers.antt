-- `order_update::changed_quantity` meets its contract.
use Rattle.book.specs.Store.{changed_quantity}
use Rattle.order_update.proofs.changed_quantity.Goals as goal

pub returns-in-UpdateQuantity : goal.returns-in-UpdateQuantity
unfolding changed_quantity
returns-in-UpdateQuantity c = rw c.in-UpdateQuantity.is

pub returns-in-UpdatePrice : goal.returns-in-UpdatePrice
unfolding changed_quantity
returns-in-UpdatePrice c = rw c.in-UpdatePrice.is

pub returns-in-UpdatePriceAndQuantity : goal.returns-in-UpdatePriceAndQuantity
unfolding changed_quantity
returns-in-UpdatePriceAndQuantity c = rw c.in-UpdatePriceAndQuantity.is

pub returns-in-Replace : goal.returns-in-Replace
unfolding changed_quantity
returns-in-Replace c = rw c.in-Replace.is
