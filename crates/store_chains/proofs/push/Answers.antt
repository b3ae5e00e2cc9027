-- `store_chains::push` meets its contract.
use native.Mathlib.Omega.{arith}
use lib.ListN.{length-set}
use Rattle.chains.proofs.ChainMoves.{pushed}
use Rattle.store_chains.proofs.push.Goals as goal

pub bounds-s-8-2 : goal.bounds-s-8-2
bounds-s-8-2 c = simp length-set (omega (arith, c.requires.1.chained.inside.room))

pub returns : goal.returns
returns c =
    let e = c.cell-at.ensures.value in
    let (ch, r, z) = c.requires in
    record {
      kept = rw e (pushed _ _ ch _ r z).0;
      by_index = λ ch r z. rw e (pushed _ _ ch _ r z).1;
    }
