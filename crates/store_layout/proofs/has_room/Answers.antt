-- `store_layout::has_room` meets its contract, by the tests on n.
use borrow.Author.Tests.{le-leb, lt-leb}
use Rattle.store_layout.proofs.has_room.Goals as goal

pub returns-then-n-lt1 : goal.returns-then-n-lt1
returns-then-n-lt1 c = rw (lt-leb 1 _ c.if-n-lt1.true)

pub returns-then-n : goal.returns-then-n
returns-then-n c = rw (le-leb 1 _ c.if-n-lt1.false, lt-leb _ _ c.if-n.true)

pub returns : goal.returns
returns c = rw (le-leb 1 _ c.if-n-lt1.false, le-leb _ _ c.if-n.false)
