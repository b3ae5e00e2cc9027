-- A number as two words: document 01, One point, one segment, one pass (pending quantity); document 02, Four (the limit).
use Rattle.std.specs.Prelude.{ℕ, ◌+◌, ◌*◌, ◌/◌, ◌%◌, ◌^◌}
use Rattle.pricelevel.specs.declared.TwoWords.{TwoWords}

-- what two words stand for; as the low one is below 2^64, the number decides both
abbrev pub number_of : TwoWords → ℕ
number_of t = t.high * 2 ^ 64 + t.low

-- the two words of a number
unfoldable pub two_words : ℕ → TwoWords
two_words n = record { high = n / 2 ^ 64; low = n % 2 ^ 64 }
