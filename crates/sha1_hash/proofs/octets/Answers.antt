-- `sha1_hash::octets` meets its contract: each octet is what `octet` ensures, by congruence.
use Rattle.fips180.specs.Fips.{big_endian, octets}
use Rattle.sha1_hash.proofs.octets.Goals as goal

pub returns : goal.returns
unfolding octets big_endian
returns c = cc
