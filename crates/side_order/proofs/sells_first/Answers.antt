-- `side_order::sells_first` meets its contract.
use borrow.Author.Tests.{eq-eqb, ne_eqb}
use Rattle.book.specs.Evaluation.{sells_first}
use Rattle.side_order.proofs.sells_first.Goals as goal

pub returns-in_default : goal.returns-in_default
unfolding sells_first
returns-in_default c = rw c.in_default.is

pub returns-then-last-price : goal.returns-then-last-price
unfolding sells_first
returns-then-last-price c = rw (c.in-Some.is, eq-eqb _ _ c.if-last-price.true)

pub returns : goal.returns
unfolding sells_first
returns c = rw (
  c.in-Some.is,
  ne_eqb _ _ c.if-last-price.false,
)
