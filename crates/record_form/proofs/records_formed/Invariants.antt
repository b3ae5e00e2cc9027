-- `record_form::records_formed` meets its contract. The loop's invariant: what is left of the test is the whole test.
use Prim.Native.Nat.{◌+◌, ◌-◌}
use mathlib.Core.Path.{◌≡◌}
use Rattle.book.specs.Lists.{every, rising}
use Rattle.form_check.specs.Check.{record_formed}
use Rattle.record_form.proofs.records_formed.Given as goal

abbrev pub invariant-loop-i : goal.invariant-loop-i
invariant-loop-i l =
    every (record_formed l.s) (rising 1 l.n) ≡ every (record_formed l.s) (rising l.i (l.n + 1 - l.i))
