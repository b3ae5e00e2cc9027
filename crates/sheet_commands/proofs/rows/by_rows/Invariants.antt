-- `sheet_commands::rows::by_rows` meets its contract: the rows that are left give what the table gives.
use Prim.Native.Nat.{◌+◌, ◌-◌, ◌≤◌}
use mathlib.Core.Path.{◌≡◌}
use lib.ListN.{length, drop}
use Rattle.text_lines.specs.Lines.{lines_of}
use Rattle.sheet_commands.specs.Commands.{command_from}
use Rattle.sheet_commands.proofs.rows.by_rows.Given as goal

abbrev pub invariant-loop-at : goal.invariant-loop-at
invariant-loop-at l = (l.at ≤ length l.table) × (l.kind ≤ l.at + 1) × (l.values ≡ l.initial.values) × (length l.values ≡ length l.initial.values) × (length l.table ≤ 4096) × (command_from (lines_of (drop l.at l.table)) l.kind l.line l.start l.end ≡ command_from (lines_of l.table) 1 l.line l.start l.end)

abbrev pub decreases-loop-at : goal.decreases-loop-at
decreases-loop-at l = length l.table - l.at
