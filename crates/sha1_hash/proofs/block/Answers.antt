-- `sha1_hash::block` meets its contract, by congruence from what its three callees ensure.
use Rattle.fips180.specs.Fips.{block}
use Rattle.sha1_hash.proofs.block.Goals as goal

pub returns : goal.returns
unfolding block
returns c = cc
