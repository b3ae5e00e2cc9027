-- `order_update::differs_in_price` meets its contract.
use Rattle.book.specs.Store.{differs_in_price}
use Rattle.order_update.proofs.differs_in_price.Goals as goal

pub returns-in-UpdateQuantity : goal.returns-in-UpdateQuantity
unfolding differs_in_price
returns-in-UpdateQuantity c = rw c.in-UpdateQuantity.is

pub returns-in-UpdatePrice : goal.returns-in-UpdatePrice
unfolding differs_in_price
returns-in-UpdatePrice c = rw c.in-UpdatePrice.is

pub returns-in-UpdatePriceAndQuantity : goal.returns-in-UpdatePriceAndQuantity
unfolding differs_in_price
returns-in-UpdatePriceAndQuantity c = rw c.in-UpdatePriceAndQuantity.is

pub returns-in-Replace : goal.returns-in-Replace
unfolding differs_in_price
returns-in-Replace c = rw c.in-Replace.is
