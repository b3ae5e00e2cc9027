-- `key_form::is_new` meets its contract. The loop's invariant: what is left of the test, at a stop of the bucket, is
-- the whole test. Each step goes to an earlier record.
use Rattle.form_check.proofs.Buckets.{Walking}
use Rattle.key_form.proofs.is_new.Given as goal

abbrev pub invariant-loop-j : goal.invariant-loop-j
invariant-loop-j l = Walking l.key l.s l.i l.j

abbrev pub decreases-loop-j : goal.decreases-loop-j
decreases-loop-j l = l.j
