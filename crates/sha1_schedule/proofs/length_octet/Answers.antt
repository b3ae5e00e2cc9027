-- `sha1_schedule::length_octet` meets its contract: its octets are among the length's 64 low bits.
use Prim.Native.Nat.{◌-◌, ◌*◌}
use native.Mathlib.Omega.{arith}
use Rattle.fips180.proofs.Pad.{length_octet}
use Rattle.sha1_schedule.proofs.length_octet.Goals as goal

pub returns : goal.returns
returns c = cc (length_octet c.args.n (56 - 8 * c.args.j) (omega arith))
