-- `identity_text::ulid::put_ulid` meets its contract: the digits of both words.
use Rattle.text_buffer.proofs.Writing.{put_then}
use Rattle.identity_text.proofs.Identities.{ulid_parts}
use native.Mathlib.Omega.{arith}
use Rattle.identity_text.proofs.ulid.put_ulid.Goals as goal

pub overflow_add-high : goal.overflow_add-high
overflow_add-high c = record { fits = omega (arith, c.ranges.low.fits) }

pub returns : goal.returns
returns c =
    record {
      put = rw (ulid_parts _ _ c.ranges.low.fits) at (put_then (put_then c.put_letters-a.ensures.put c.put_letters-b.ensures.put) c.put_letters.ensures.put);
      upper_bound = omega (arith, c.put_letters-a.ensures.value, c.put_letters-b.ensures.value, c.put_letters.ensures.value);
    }
