-- The number of a side in a stored word.
use Rattle.std.specs.Prelude.{ℕ}
use Rattle.pricelevel.specs.declared.Side.{Side}
use Rattle.pricelevel.specs.declared.Side.TheVariants.{Buy, Sell}

-- document 01, The store: side (0 buy, 1 sell)
abbrev pub side_number : Side → ℕ
side_number Buy = 0
side_number Sell = 1
