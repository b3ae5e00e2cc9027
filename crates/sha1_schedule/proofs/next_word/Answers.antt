-- `sha1_schedule::next_word` meets its contract: each way out has the test that led there.
use borrow.Author.Tests.{lt-ltb, le-ltb}
use Rattle.fips180.specs.Fips.{next_word}
use Rattle.sha1_schedule.proofs.next_word.Goals as goal

pub returns-then-t-lt16 : goal.returns-then-t-lt16
unfolding next_word
returns-then-t-lt16 c = simp (lt-ltb _ _ c.if-t-lt16.true) c.word.ensures

pub returns : goal.returns
unfolding next_word
returns c = simp (le-ltb _ _ c.if-t-lt16.false) c.rotl.ensures
