-- `segments::second_point` meets its contract.
use borrow.Author.Tests.{eq-eqb, ne_eqb}
use Rattle.segments.specs.Segments.{second_point}
use Rattle.segments.proofs.second_point.Goals as goal

pub returns-then-first-last : goal.returns-then-first-last
unfolding second_point
returns-then-first-last c = rw (eq-eqb _ _ c.if-first-last.true)

pub returns : goal.returns
unfolding second_point
returns c = rw (ne_eqb _ _ c.if-first-last.false)
