-- `store_chains::link` meets its contract: two chains, one after the other.
use Rattle.chains.proofs.Kept.{kept_trans}
use Rattle.chains.proofs.ChainMoves.{ready_outside, linked_half, linked_both}
use Rattle.store_chains.proofs.link.Goals as goal

pub put_in-requires : goal.put_in-requires
put_in-requires c = let (ch, r) = c.requires in (ch, r.chained, ready_outside _ _ ch _ r _)

pub put_in-requires-2 : goal.put_in-requires-2
put_in-requires-2 c =
    let (ch, r) = c.requires in
    let first = c.put_in.ensures in
    let half = linked_half _ _ _ ch _ _ r first.kept first.by_index in
    (_, half.0, half.1)

pub returns : goal.returns
returns c =
    let first = c.put_in.ensures in
    let second = c.put_in-2.ensures in
    record {
      kept = kept_trans first.kept second.kept;
      by_index = λ ch r. linked_both _ _ _ ch _ _ r first.kept first.by_index _ second.by_index;
    }
