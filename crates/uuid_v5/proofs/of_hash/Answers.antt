-- `uuid_v5::of_hash` meets its contract: `Octets` has the two words that the stamped octets make.
use native.Mathlib.Omega.{arith}
use Rattle.uuid_v5.specs.Rfc9562.{uuid_of}
use Rattle.uuid_v5.proofs.Octets.{stamped_high, stamped_low}
use Rattle.uuid_v5.proofs.of_hash.Goals as goal

pub returns : goal.returns
unfolding uuid_of
returns c =
    let s = c.args.s in
    cc (stamped_high s (omega arith) (omega arith), stamped_low s (omega arith) (omega arith))
