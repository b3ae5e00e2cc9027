-- `store_chains::unlink` meets its contract: two chains, one after the other.
use Rattle.chains.proofs.Kept.{kept_trans}
use Rattle.chains.proofs.ChainMoves.{unlinked_half, unlinked}
use Rattle.store_chains.proofs.unlink.Goals as goal

pub take_out-requires-2 : goal.take_out-requires-2
take_out-requires-2 c =
    let (ch, on) = c.requires in
    let half = unlinked_half _ _ _ ch _ _ on c.take_out.ensures.by_index in
    (_, half.0, half.1)

pub returns : goal.returns
returns c =
    let first = c.take_out.ensures in
    let second = c.take_out-2.ensures in
    record {
      kept = kept_trans first.kept second.kept;
      by_index = λ ch on. unlinked _ _ _ ch _ _ on first.by_index _ second.by_index;
    }
