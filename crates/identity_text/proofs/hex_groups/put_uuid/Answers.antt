-- `identity_text::hex_groups::put_uuid` meets its contract: the groups, one behind the other.
use Rattle.text_buffer.proofs.Writing.{put_then}
use Rattle.identity_text.specs.Identities.{uuid_of}
use native.Mathlib.Omega.{arith}
use Rattle.identity_text.proofs.hex_groups.put_uuid.Goals as goal

pub returns : goal.returns
unfolding uuid_of
returns c =
    record {
      put = put_then (put_then (put_then (put_then c.put_hex-a.ensures.put c.put_group-b.ensures.put) c.put_group-c.ensures.put) c.put_group-d.ensures.put) c.put_group.ensures.put;
      upper_bound = omega (arith, c.put_hex-a.ensures.value, c.put_group-b.ensures.value, c.put_group-c.ensures.value, c.put_group-d.ensures.value, c.put_group.ensures.value);
    }
