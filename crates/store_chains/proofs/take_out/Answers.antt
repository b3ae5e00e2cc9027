-- `store_chains::take_out` meets its contract: `link_out` at the chain's head and link.
use Rattle.book.specs.declared.StoreChain.TheVariants.{Ordered}
use Rattle.chains.proofs.Chained.{chained_record, chained-walk}
use Rattle.chains.proofs.ChainMoves.{taken_out}
use Rattle.store_chains.proofs.take_out.Goals as goal

pub link_out-requires : goal.link_out-requires
link_out-requires c =
    let (ch, s, h) = c.requires in
    record {
      fact = chained_record _ _ ch s _ _ h;
      by_index = (
        ch _,
        chained-walk _ _ ch s (Ordered _) _ _ c.link_of-link.ensures
            c.head_of-head.ensures,
        h,
      );
    }

pub returns : goal.returns
returns c =
    let (ch, s, h) = c.requires in
    let told = taken_out _ _ _ _ _ _ _ c.link_of-link.ensures
    c.head_of-head.ensures in
    record {
      kept = (told ch s h c.link_out.ensures).0;
      by_index = λ ch s h. (told ch s h c.link_out.ensures).1;
    }
