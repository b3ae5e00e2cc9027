-- `sha1_hash::digest` meets its contract: the empty head adds nothing to the message.
use Rattle.fips180.specs.Fips.{digest}
use Rattle.sha1_hash.proofs.digest.Goals as goal

pub returns : goal.returns
unfolding digest
returns c = cc
