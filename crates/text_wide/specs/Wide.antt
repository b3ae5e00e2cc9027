-- Numbers of two words as text.
use Rattle.std.specs.Prelude.{ℕ, ◌+◌, ◌*◌, ◌^◌, List}
use Rattle.text_buffer.specs.Digits.{decimal_of}

-- a number of two words in decimal
unfoldable pub wide_of : ℕ → ℕ → List ℕ
wide_of high low = decimal_of (high * 2 ^ 64 + low)
