-- `sheet_commands::rows::by_rows` meets its contract: the rows that are left give what the table gives.
use mathlib.Core.Path.{refl, sym, ◌∙◌}
use Rattle.sheet_commands.proofs.Turns.{row_found, row-passed, rows_end}
use borrow.Author.Rules.{rules}
use Rattle.sheet_commands.proofs.rows.by_rows.Goals as goal

pub loop-at-init : goal.loop-at-init
loop-at-init c = (search rules, search rules, refl, search rules, search rules, refl)

pub returns-then-is_keyword : goal.returns-then-is_keyword
returns-then-is_keyword c = rw (sym (row_found _ _ _ _ _ _ _ c.next_line-cut.ensures.text_value (sym c.is_keyword.ensures ∙ c.if-is_keyword.true)) ∙ c.loop-at.invariant.5, c.loop-at.invariant.2) at c.by_row.ensures

pub loop-at-preserved : goal.loop-at-preserved
loop-at-preserved c = (search rules, search rules, c.loop-at.invariant.2, search rules, search rules, sym (row-passed _ _ _ _ _ _ _ c.next_line-cut.ensures.text_value (sym c.is_keyword.ensures ∙ c.if-is_keyword.false)) ∙ c.loop-at.invariant.5)

pub returns : goal.returns
returns c = rw (sym c.loop-at.invariant.5 ∙ rows_end _ _ _ _ _ _ c.loop-at-test.false) (record { kind = refl; fault = refl; column = refl; values = c.loop-at.invariant.2 })
