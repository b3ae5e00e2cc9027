-- Pieces of printed lines as text.
use Rattle.std.specs.Prelude.{ℕ, cond, List, [], ◌∷◌, ◌++◌, eqb}
use Rattle.text_buffer.specs.Digits.{digits, decimal_of}
use Rattle.text_wide.specs.Wide.{wide_of}

-- "sell", "buy", "none"
abbrev pub sell_text : List ℕ
sell_text = 115 ∷ 101 ∷ 108 ∷ 108 ∷ []

abbrev pub buy_text : List ℕ
buy_text = 98 ∷ 117 ∷ 121 ∷ []

abbrev pub none_text : List ℕ
none_text = 110 ∷ 111 ∷ 110 ∷ 101 ∷ []

-- a side: 0 is buy, any other number sell
unfoldable pub side_of : ℕ → List ℕ
side_of side = cond (eqb side 0) buy_text sell_text

-- a price that may be absent: 0 says that there is none
unfoldable pub price_of : ℕ → ℕ → List ℕ
price_of present price = cond (eqb present 0) none_text (decimal_of price)

-- a limit, of two words, that may be absent
unfoldable pub limit_of : ℕ → ℕ → ℕ → List ℕ
limit_of limited high low = cond (eqb limited 0) none_text (wide_of high low)

-- a byte as it is
abbrev pub byte_letter : ℕ → ℕ
byte_letter b = b

-- the eight bytes of a word, the most significant first
unfoldable pub bytes_of : ℕ → List ℕ
bytes_of n = digits byte_letter 256 8 n

-- a text up to its first zero byte
unfoldable pub until_zero : List ℕ → List ℕ
until_zero [] = []
until_zero (b ∷ text) = cond (eqb b 0) [] (b ∷ until_zero text)

-- a holder's name: the bytes of four words up to the first zero
unfoldable pub holder_of : ℕ → ℕ → ℕ → ℕ → List ℕ
holder_of a b c d = until_zero (bytes_of a ++ bytes_of b ++ bytes_of c ++ bytes_of d)
