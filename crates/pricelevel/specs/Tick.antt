-- Multiples of a tick.
use Rattle.std.specs.Prelude.{ℕ, zero, suc, ◌%◌, Bool, true, eqb}

-- document 01, The store: a tick of 0 is none; questions 9 and 18: tick 0, or a multiple
unfoldable pub on_tick : ℕ → ℕ → Bool
on_tick zero amount = true
on_tick (suc t) amount = eqb (amount % suc t) 0
