-- `pricelevel::on_tick` meets its contract, by cases on the tick.
use Prim.Native.Nat.{ℕ, zero, suc, ◌%◌}
use mathlib.Core.Path.{◌≡◌, refl}
use lib.Dec.{eqb}
use Rattle.pricelevel.specs.Tick.{on_tick}
use Rattle.pricelevel.proofs.on_tick.Goals as goal

-- `pricelevel::on_tick` meets its contract, by cases on the tick.
onTick-remainder : (tick amount : ℕ) → (tick ≡ 0 → ⊥) → eqb (amount % tick) 0 ≡ on_tick tick amount
unfolding on_tick
onTick-remainder zero amount h = absurd (h refl)
onTick-remainder (suc t) amount h = refl

pub returns-then-tick-eq0 : goal.returns-then-tick-eq0
unfolding on_tick
returns-then-tick-eq0 c = rw c.if-tick-eq0.true

pub returns : goal.returns
returns c = onTick-remainder _ _ c.if-tick-eq0.false
