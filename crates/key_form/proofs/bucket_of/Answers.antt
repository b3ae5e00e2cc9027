-- `key_form::bucket_of` meets its contract: each arm knows the key, and a remainder is below its divisor.
use Rattle.std.proofs.Common.{arith}
use Rattle.form_check.specs.Keys.{bucket_at}
use Rattle.key_form.proofs.bucket_of.Goals as goal

pub returns-in-Sequence : goal.returns-in-Sequence
unfolding bucket_at
returns-in-Sequence c =
    record {
      value = rw (c.in-Sequence.is, c.word.ensures);
      upper_bound = omega arith;
    }

pub returns-in-Identity : goal.returns-in-Identity
unfolding bucket_at
returns-in-Identity c =
    record {
      value = rw (
        c.in-Identity.is,
        c.wrapping_add_u64-sum.ensures.value,
        c.word-in-Identity.ensures,
        c.word-in-Identity-2.ensures,
      );
      upper_bound = omega arith;
    }
