-- `record_groups::count_sides` meets its contract. The loop's invariant, for each side: what was counted and what is
-- still to be counted is the whole count.
use Prim.Native.Nat.{◌+◌, ◌-◌, ◌<◌}
use mathlib.Core.Path.{◌≡◌}
use Rattle.book.specs.Words.{slots_at}
use Rattle.form_check.specs.Check.{group_count}
use Rattle.record_groups.proofs.count_sides.Given as goal

abbrev pub invariant-loop-i : goal.invariant-loop-i
invariant-loop-i l =
    (l.sells < l.i) × (l.buys < l.i)
    × (l.sells + group_count 1 (slots_at l.s l.i (l.n + 1 - l.i)) ≡ group_count 1 (slots_at l.s 1 l.n))
    × (l.buys + group_count 0 (slots_at l.s l.i (l.n + 1 - l.i)) ≡ group_count 0 (slots_at l.s 1 l.n))
