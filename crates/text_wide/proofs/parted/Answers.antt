-- `text_wide::parted` meets its contract: the long division.
use native.Mathlib.Omega.{arith}
use Rattle.text_wide.proofs.parted.Goals as goal

pub overflow_add-upper : goal.overflow_add-upper
overflow_add-upper c = record { fits = omega (arith, c.ranges.low.fits) }
