-- `uuid_v5::Uuid::new_v5` meets its contract, by congruence from what its callees ensure.
use Rattle.fips180.specs.Fips.{digest}
use Rattle.uuid_v5.specs.Rfc9562.{v5}
use Rattle.uuid_v5.proofs.Uuid.new_v5.Goals as goal

pub returns : goal.returns
unfolding v5 digest
returns c = cc
