-- `text_numbers::runs::count_at` meets its contract: what is left gives what the whole gives.
use Prim.Native.Nat.{ℕ, ◌+◌, ◌-◌}
use mathlib.Core.Path.{◌≡◌, ap, sym, ◌∙◌}
use lib.ListN.{length}
use native.Mathlib.Omega.{arith}
use Rattle.text_numbers.proofs.Counts.{count_none, count_turn, count_fault, count_empty, count_done}
use Rattle.text_numbers.specs.Steps.{got}
use borrow.Author.Rules.{rules}
use Rattle.text_numbers.proofs.runs.count_at.Goals as goal

pub returns-then-s-ne1 : goal.returns-then-s-ne1
returns-then-s-ne1 c =
    let s = c.number_at-s.ensures.0 in
    (s ∙ sym (count_fault _ _ _ _ _ (omega arith) (rw s at c.if-s-ne0.true) (rw s at c.if-s-ne1.true)) ∙ c.loop-n.invariant.1, search rules)

pub returns-then-n-eq0 : goal.returns-then-n-eq0
returns-then-n-eq0 c =
    let s = c.number_at-s.ensures.0 in
    (s ∙ sym (count_empty _ _ _ _ _ (omega arith) (rw s at c.if-s-ne1.false) c.if-n-eq0.true) ∙ c.loop-n.invariant.1, search rules)

pub returns-then-s-ne0 : goal.returns-then-s-ne0
returns-then-s-ne0 c =
    let s = c.number_at-s.ensures.0 in
    let r = c.got.ensures in
    (r ∙ rw s (sym (count_done _ _ _ _ _ (omega arith) (rw s at c.if-s-ne1.false) c.if-n-eq0.false)) ∙ c.loop-n.invariant.1, rw r (search rules))

pub loop-n-preserved : goal.loop-n-preserved
loop-n-preserved c =
    let s = c.number_at-s.ensures.0 in
    let one : length c.args.line.now + 1 - (c.loop-n.n + 1) ≡ length c.args.line.now + 1 - c.loop-n.n - 1 = omega arith in
    (search rules, rw (one, s) (sym (count_turn _ _ _ _ _ (omega arith) (rw s at c.if-s-ne0.false)) ∙ c.loop-n.invariant.1))

pub returns : goal.returns
returns c =
    let r = c.got-2.ensures in
    let all : length c.args.line.now + 1 ≡ c.loop-n.n = omega arith in
    let none = count_none (length c.args.line.now + 1 - c.loop-n.n) c.args.line.now c.args.from c.loop-n.at c.loop-n.n (omega arith) in
    (r ∙ ap (λ (n : ℕ). got 2 c.args.from n 0 0 0 c.loop-n.at) all ∙ sym none ∙ c.loop-n.invariant.1, rw r (search rules))
