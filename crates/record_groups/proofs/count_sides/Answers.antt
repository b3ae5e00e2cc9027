-- `record_groups::count_sides` meets its contract. The loop's invariant, for each side: what was counted and what is
-- still to be counted is the whole count.
use mathlib.Core.Logic.{inl, inr}
use Rattle.std.proofs.Common.{◌≡◌, ◌+◌, ◌-◌, ◌<◌, refl, arith}
use Rattle.form_check.proofs.Counts.{count_end, count_turn}
use Rattle.record_groups.proofs.count_sides.Goals as goal

pub loop-i-init : goal.loop-i-init
loop-i-init c =
    let all : c.args.n + 1 - 1 ≡ c.args.n = omega arith in
    (omega arith, omega arith, rw all (omega arith), rw all (omega arith))

pub loop-i-preserved : goal.loop-i-preserved
loop-i-preserved c =
    let i = c.loop-i.invariant in
    let e = c.group_of-g.ensures in
    let t : 0 < c.args.n + 1 - c.loop-i.i = omega arith in
    let left : c.args.n + 1 - c.loop-i.i - 1 ≡ c.args.n + 1 - (c.loop-i.i + 1) = omega arith in
    let sell = λ (q : c.group_of-g.result ≡ 1). rw left at (count_turn _ _ _ _ _ _ i.2 _ e t (c.loop-i.sells + 1) i.0 (inl (q, refl))).1 in
    let no_sell = λ (q : c.group_of-g.result ≡ 1 → ⊥). rw left at (count_turn _ _ _ _ _ _ i.2 _ e t c.loop-i.sells i.0 (inr (q, refl))).1 in
    let buy = λ (q : c.group_of-g.result ≡ 0). rw left at (count_turn _ _ _ _ _ _ i.3 _ e t (c.loop-i.buys + 1) i.1 (inl (q, refl))).1 in
    let no_buy = λ (q : c.group_of-g.result ≡ 0 → ⊥). rw left at (count_turn _ _ _ _ _ _ i.3 _ e t c.loop-i.buys i.1 (inr (q, refl))).1 in
    (grind arith, grind arith, grind arith, grind arith)

pub returns : goal.returns
returns c =
    let i = c.loop-i.invariant in
    record {
      sells = count_end _ _ _ _ _ _ i.2 (omega arith);
      buys = count_end _ _ _ _ _ _ i.3 (omega arith);
    }
