-- The price that a word stands for, and the word of a price.
use Rattle.std.specs.Prelude.{ℕ}
use Rattle.pricelevel.specs.declared.Price.{Price}

-- document 01, head: price, quantity and sequence are separate kinds of number; runs of prices are lent as words
abbrev pub to_price : ℕ → Price
to_price k = record { 0 = k }

abbrev pub price_word : Price → ℕ
price_word p = p.0
