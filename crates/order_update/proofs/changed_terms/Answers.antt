-- `order_update::changed_terms` meets its contract.
use Rattle.book.specs.Store.{changed_terms}
use Rattle.order_update.proofs.changed_terms.Goals as goal

pub returns-in-UpdateQuantity : goal.returns-in-UpdateQuantity
unfolding changed_terms
returns-in-UpdateQuantity c = rw c.in-UpdateQuantity.is

pub returns-in-UpdatePrice : goal.returns-in-UpdatePrice
unfolding changed_terms
returns-in-UpdatePrice c = rw c.in-UpdatePrice.is c.with_terms.ensures

pub returns-in-UpdatePriceAndQuantity : goal.returns-in-UpdatePriceAndQuantity
unfolding changed_terms
returns-in-UpdatePriceAndQuantity c = rw c.in-UpdatePriceAndQuantity.is c.with_terms-in-UpdatePriceAndQuantity.ensures

pub returns-in-Replace : goal.returns-in-Replace
unfolding changed_terms
returns-in-Replace c = rw c.in-Replace.is c.with_terms-in-Replace.ensures
