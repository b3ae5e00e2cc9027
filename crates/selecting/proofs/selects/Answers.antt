-- `selecting::selects` meets its contract: a case for each selector.
use native.Mathlib.Omega.{arith}
use borrow.Author.Tests.{lt-leb, le-leb}
use Rattle.book.specs.Collect.{selects}
use Rattle.selecting.proofs.selects.Goals as goal

pub returns-then-lowest-stop : goal.returns-then-lowest-stop
unfolding selects
returns-then-lowest-stop c = rw (c.in-ByPriceRange.is, lt-leb _ _ c.if-lowest-stop.true)

pub returns-in-ByHolder : goal.returns-in-ByHolder
unfolding selects
returns-in-ByHolder c = rw c.in-ByHolder.is c.eq.ensures

pub returns-in-BySide : goal.returns-in-BySide
unfolding selects
returns-in-BySide c = rw (c.number.ensures, c.number-in-BySide.ensures, c.in-BySide.is)

pub returns-else-lowest-stop : goal.returns-else-lowest-stop
unfolding selects
returns-else-lowest-stop c =
    rw (c.in-ByPriceRange.is, le-leb c.in-ByPriceRange.lowest.0 c.args.t.terms.stop.0 (omega (arith, c.if-lowest-stop.false)))
