-- `record_form::is_blank` meets its contract. The loop's invariant: what is left of the test is the whole test.
use Prim.Native.Nat.{◌-◌}
use mathlib.Core.Path.{◌≡◌}
use Rattle.book.specs.Lists.{every, rising}
use Rattle.book.specs.Sizes.{record_length}
use Rattle.form_check.specs.Check.{blank_at, blank}
use Rattle.record_form.proofs.is_blank.Given as goal

abbrev pub invariant-loop-k : goal.invariant-loop-k
invariant-loop-k l = blank l.s l.i ≡ every (blank_at l.s l.i) (rising l.k (record_length - l.k))
