-- `key_form::keys_differ` meets its contract. The loop's invariant: what is left of the test is the whole test, and the
-- stops passed are in the tables.
use Rattle.std.proofs.Common.{◌≡◌, ◌+◌, ◌-◌}
use Rattle.book.specs.Lists.{every, rising}
use Rattle.form_check.specs.Keys.{new_at, keys_differ}
use Rattle.form_check.proofs.Buckets.{Tables}
use Rattle.key_form.proofs.keys_differ.Given as goal

abbrev pub invariant-loop-i : goal.invariant-loop-i
invariant-loop-i l =
    (keys_differ l.key l.s l.n ≡ every (new_at l.key l.s) (rising l.i (l.n + 1 - l.i)))
    × Tables l.key l.s (l.i - 1) l.heads l.nexts
