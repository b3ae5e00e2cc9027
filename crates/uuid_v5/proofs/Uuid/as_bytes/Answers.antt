-- `uuid_v5::Uuid::as_bytes` meets its contract: each octet is what `octet` ensures, by congruence.
use Rattle.fips180.specs.Fips.{big_endian}
use Rattle.uuid_v5.specs.Rfc9562.{octets_of}
use Rattle.uuid_v5.proofs.Uuid.as_bytes.Goals as goal

pub returns : goal.returns
unfolding octets_of big_endian
returns c = cc
