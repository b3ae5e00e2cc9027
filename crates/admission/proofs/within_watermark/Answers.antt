-- `admission::within_watermark` meets its contract.
use Rattle.book.specs.Store.{within_watermark}
use Rattle.admission.proofs.within_watermark.Goals as goal

pub returns : goal.returns
unfolding within_watermark
returns c = rw c.is_behind.ensures
