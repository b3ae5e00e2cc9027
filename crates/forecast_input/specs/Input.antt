-- What the program `forecast` reads: a store as little-endian words, a price count, the prices. Document 01, The
-- program `forecast`.
use Rattle.std.specs.Prelude.{ℕ, zero, suc, ◌+◌, ◌*◌, ◌/◌, ◌%◌, ◌^◌, min, ◌≡◌, false, cond, ◌&&◌, List, [], ◌∷◌, map, leb, eqb, length, get_or, take, drop, None}
use Rattle.book.specs.Calls.{WalkOutcome, walk_call}
use Rattle.book.specs.declared.Settings.{Settings}
use Rattle.book.specs.Sizes.{most_records, store_length, most_prices}
use Rattle.pricelevel.specs.Price.{to_price}

-- four bytes from place p on as a number, the lowest first
unfoldable pub four_at : List ℕ → ℕ → ℕ
four_at bytes p = get_or bytes p 0 + 256 * (get_or bytes (p + 1) 0 + 256 * (get_or bytes (p + 2) 0 + 256 * get_or bytes (p + 3) 0))

-- a word is eight bytes, the lowest first; word i from 0
unfoldable pub word_at : List ℕ → ℕ → ℕ
word_at bytes i = four_at bytes (8 * i) + 2 ^ 32 * four_at bytes (8 * i + 4)

-- k words from word i on
unfoldable pub words_at : List ℕ → ℕ → ℕ → List ℕ
words_at bytes i zero = []
words_at bytes i (suc k) = word_at bytes i ∷ words_at bytes (suc i) k

-- the words of an input, none where its bytes are no multiple of 8
unfoldable pub word_count : List ℕ → ℕ
word_count bytes = cond (eqb (length bytes % 8) 0) (length bytes / 8) 0

unfoldable pub words_of : List ℕ → List ℕ
words_of bytes = words_at bytes 0 (word_count bytes)

-- the length of the store that the first word names, of at most `most_records` records
abbrev pub named_length : List ℕ → ℕ
named_length w = store_length (min (get_or w 0 0) most_records)

-- the words of the store, all where they are too few
unfoldable pub store_in : List ℕ → List ℕ
store_in w = take (named_length w) w

-- a count and the prices: none where the count is missing or above 4,096, or where they are not exactly that many
unfoldable pub counted : List ℕ → List ℕ
counted [] = []
counted (count ∷ prices) = cond (leb count most_prices && eqb (length prices) count) prices []

-- the prices, which stand behind the store to the end of input
unfoldable pub prices_in : List ℕ → List ℕ
prices_in w = counted (drop (length (store_in w)) w)

-- the longest input that is accepted, in words, and two words more, in bytes
abbrev pub longest : ℕ
longest = store_length most_records + 1 + most_prices

abbrev pub room_bytes : ℕ
room_bytes = 8 * longest + 16

-- two inputs that name the same store and the same prices
abbrev pub SameInput : List ℕ → List ℕ → Type 0
SameInput a b = (store_in (words_of a) ≡ store_in (words_of b)) × (prices_in (words_of a) ≡ prices_in (words_of b))

-- no collar, kill switch off, namespace zero
abbrev pub forecast_settings : Settings
forecast_settings = record { kill = false; protection = None; namespace = record { high = 0; low = 0 } }

-- the walk that an input asks for, prev absent, with a list as long as a store has records
unfoldable pub forecast_of : List ℕ → WalkOutcome
forecast_of bytes = walk_call forecast_settings None (map to_price (prices_in (words_of bytes)))
    (store_in (words_of bytes)) most_records
