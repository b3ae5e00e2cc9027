-- `text_lines::line_at` meets its contract: the line looked for is one of those that are left.
use Prim.Native.Nat.{◌-◌}
use mathlib.Core.Path.{◌≡◌}
use native.Mathlib.Omega.{arith}
use Rattle.text_lines.proofs.Lines.{line_start, line_none}
use borrow.Author.Rules.{rules}
use Rattle.text_lines.proofs.line_at.Goals as goal

pub loop-i-init : goal.loop-i-init
loop-i-init c =
    let all : c.args.k - 0 ≡ c.args.k = omega arith in
    (search rules, rw all (line_start c.args.text.now c.args.k))

pub returns-then-at-text-2-clause-end_value : goal.returns-then-at-text-2-clause-end_value
returns-then-at-text-2-clause-end_value c = line_none _ _ _ (c.args.k - c.loop-i.i) (omega arith) c.loop-i.invariant.1
