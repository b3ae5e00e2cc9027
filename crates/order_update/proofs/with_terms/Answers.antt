-- `order_update::with_terms` meets its contract.
use mathlib.Core.Path.{refl}
use Rattle.book.specs.Store.{with_terms}
use Rattle.order_update.proofs.with_terms.Goals as goal

pub returns : goal.returns
unfolding with_terms
returns c = refl
