-- `records::put_words` meets its contract.
use native.Mathlib.Omega.{arith}
use Rattle.chains.proofs.Copies.{copied_none, copied_more, copied_all}
use Rattle.records.proofs.put_words.Goals as goal

pub loop-k-init : goal.loop-k-init
loop-k-init c = copied_none _ _ _

pub loop-k-preserved : goal.loop-k-preserved
loop-k-preserved c = copied_more _ _ _ _ _ c.loop-k.invariant c.loop-k-test.true

pub returns : goal.returns
returns c = copied_all _ _ _ _ _ c.loop-k.invariant c.loop-k-test.false
