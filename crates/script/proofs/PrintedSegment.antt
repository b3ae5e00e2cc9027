-- The segment that an entry of the script printed, as it is put behind the queue.
use Prim.Native.Nat.{ℕ, ◌+◌}
use mathlib.Core.List.{List, [], ◌∷◌}
use mathlib.Core.Path.{◌≡◌, refl}
use native.Mathlib.Nat.{add-zero}
use native.Mathlib.Omega.{arith}
use borrow.Author.Tests.{eq-eqb, ne_eqb}
use lib.ListN.{get_or, set, drop}
use lib.Seq.{get_or-drop}
use Rattle.book.specs.Script.{script_prev, script_segment}
use Rattle.book.specs.declared.PrintSegment.{PrintSegment}
use Rattle.pricelevel.specs.declared.Price.{Price}
use Rattle.std.specs.Prelude.{None, Option, Some}
use Rattle.script.specs.Queue.{Enqueued}

module _ (script : List ℕ) (at : ℕ) (list : List PrintSegment) (tail : ℕ) where
  abbrev Printed : List PrintSegment → ℕ → Type 0
  Printed = Enqueued (script_segment (drop at script)) list tail

  pub printed_none : (get_or script at 0 ≡ 1 → ⊥) → Printed list tail
  unfolding script_segment
  printed_none h = simp (get_or-drop, add-zero, ne_eqb _ _ h) (record { stand = refl; ends = omega arith })

  -- the segment of an entry, behind this price
  abbrev behind : Option Price → PrintSegment
  behind prev = record {
    prev = prev;
    first = record { 0 = get_or script (at + 3) 0 };
    last = record { 0 = get_or script (at + 4) 0 };
  }

  pub printed_after : get_or script at 0 ≡ 1 → get_or script (at + 1) 0 ≡ 1
      → Printed (set list tail (behind (Some (record { 0 = get_or script (at + 2) 0 })))) (tail + 1)
  unfolding script_segment script_prev
  printed_after h k = simp (get_or-drop, add-zero, eq-eqb _ _ h, eq-eqb _ _ k) (record { stand = refl; ends = refl })

  pub printed_first : get_or script at 0 ≡ 1 → (get_or script (at + 1) 0 ≡ 1 → ⊥)
      → Printed (set list tail (behind None)) (tail + 1)
  unfolding script_segment script_prev
  printed_first h k = simp (get_or-drop, add-zero, eq-eqb _ _ h, ne_eqb _ _ k) (record { stand = refl; ends = refl })
