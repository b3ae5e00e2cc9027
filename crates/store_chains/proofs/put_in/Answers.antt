-- `store_chains::put_in` meets its contract: `link_in` at the chain's head and link.
use Rattle.book.specs.declared.StoreChain.TheVariants.{Ordered}
use Rattle.chains.proofs.Chained.{chained-walk}
use Rattle.chains.proofs.ChainMoves.{put_into}
use Rattle.store_chains.proofs.put_in.Goals as goal

pub link_in-requires : goal.link_in-requires
link_in-requires c =
    let (ch, s, o) = c.requires in
    let a = Ordered c.args.c in
    record {
      fact = record { least = o.least; most = o.most; inside = s.inside };
      by_index = (ch a, chained-walk _ _ ch s a _ _ c.link_of-link.ensures c.head_of-head.ensures);
    }

pub returns : goal.returns
returns c =
    let (ch, s, o) = c.requires in
    let told = put_into _ _ _ _ _ _ _ c.link_of-link.ensures
    c.head_of-head.ensures _ in
    record {
      kept = (told ch s o c.link_in.ensures).0;
      by_index = λ ch s o. (told ch s o c.link_in.ensures).1;
    }
