-- `sha1_schedule::schedule` meets its contract. The invariant: the first t words of the array are the schedule's first t.
use mathlib.Core.List.{◌++◌}
use mathlib.Core.Path.{◌≡◌}
use lib.ListN.{length, take}
use Rattle.fips180.specs.Fips.{pad, schedule}
use Rattle.sha1_schedule.proofs.schedule.Given as goal

abbrev pub invariant-loop-t : goal.invariant-loop-t
invariant-loop-t l = (length l.w ≡ 80) × (take l.t l.w ≡ schedule (pad (l.head ++ l.tail)) l.i l.t)
