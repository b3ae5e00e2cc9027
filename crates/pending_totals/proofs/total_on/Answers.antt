-- `pending_totals::total_on` meets its contract: the sum so far and that of the records to come are the whole.
use native.Mathlib.Omega.{arith}
use Rattle.store_words.proofs.Sums.{summed_none, summed_more, summed_all}
use Rattle.pending_totals.proofs.total_on.Goals as goal

pub loop-i-init : goal.loop-i-init
loop-i-init c = summed_none _ _ _

pub quantity_on-quantity-requires : goal.quantity_on-quantity-requires
quantity_on-quantity-requires c = record {
  least = c.loop-i.invariant.least;
  most = omega arith;
  inside = c.requires;
}

pub plus-sum-requires : goal.plus-sum-requires
plus-sum-requires c = omega (arith, c.requires.few)

pub loop-i-preserved : goal.loop-i-preserved
loop-i-preserved c =
    summed_more _ _ _ _ _ _ _ (omega arith) c.loop-i.invariant c.quantity_on-quantity.ensures
    c.plus-sum.ensures.result_value c.plus-sum.ensures.high_bound

pub returns : goal.returns
returns c = summed_all _ _ _ _ _ (omega arith) c.loop-i.invariant
