-- The order of a chain as one number: a chain ascends in its rank.
use Rattle.std.specs.Prelude.{ℕ, ◌+◌, ◌-◌, ◌*◌, ◌^◌, List}
use Rattle.pricelevel.specs.declared.Side.TheVariants.{Buy, Sell}
use Rattle.book.specs.Book.{stop_of, watermark_of, seq_of}
use Rattle.book.specs.declared.Chain.{Chain}
use Rattle.book.specs.declared.Chain.TheVariants.{ByStop, ByWatermark}
use Rattle.book.specs.Words.{entry_at}
use Rattle.book.specs.declared.StopEntry.{StopEntry}
use Rattle.chains.specs.declared.Rank.{Rank}

abbrev pub top : ℕ
top = 2 ^ 64 - 1

-- the key, or its complement where the chain descends, and for ties the sequence, or its complement
unfoldable pub rank : Chain → StopEntry → ℕ
rank (ByStop Sell) t = (top - stop_of t) * 2 ^ 64 + seq_of t
rank (ByStop Buy) t = stop_of t * 2 ^ 64 + seq_of t
rank (ByWatermark Sell) t = watermark_of t * 2 ^ 64 + seq_of t
rank (ByWatermark Buy) t = (top - watermark_of t) * 2 ^ 64 + (top - seq_of t)

-- of record i, by its words
unfoldable pub rank_at : Chain → List ℕ → ℕ → ℕ
rank_at c w i = rank c (entry_at w i)

-- two words as one number
abbrev pub pair : Rank → ℕ
pair r = r.key * 2 ^ 64 + r.tie
