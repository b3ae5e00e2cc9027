-- The sizes of a store, of its records and of the entries of lists, in words: document 01, The store; One point, one
-- segment, one pass. A record has the length of document 02, One.
use Rattle.std.specs.Prelude.{ℕ, ◌+◌, ◌-◌, ◌*◌, ◌<◌, ◌≢◌}

-- header words, words of a record, most records
abbrev pub header_length : ℕ
header_length = 9

abbrev pub record_length : ℕ
record_length = 15

abbrev pub most_records : ℕ
most_records = 545

-- the words of a store of n records
abbrev pub store_length : ℕ → ℕ
store_length n = header_length + record_length * n

-- the words of the largest store
abbrev pub most_words : ℕ
most_words = store_length most_records

-- the two links of a record, next by stop and next by watermark; its other words are data
abbrev pub next_by_stop : ℕ
next_by_stop = 9

abbrev pub next_by_watermark : ℕ
next_by_watermark = 10

-- the holder's words stand behind the links, to the end of the record
abbrev pub first_holder_word : ℕ
first_holder_word = 11

-- all words of a record but the links
abbrev pub data_length : ℕ
data_length = 13

pub record IsData (k : ℕ) : Type 0 where
  pub inside : k < record_length
  pub no_stop_link : k ≢ next_by_stop
  pub no_watermark_link : k ≢ next_by_watermark

-- the most prices of a run
abbrev pub most_prices : ℕ
most_prices = 4096

-- the most trial prices of a ladder: the bits of a word; and the place that is given where none of them elects.
-- Document 02, Three
abbrev pub most_trial_prices : ℕ
most_trial_prices = 64

abbrev pub no_place : ℕ
no_place = 64

-- the words of an entry: of a script, of a list of the elected, of a list of the moved
abbrev pub script_entry_length : ℕ
script_entry_length = 5

abbrev pub elected_length : ℕ
elected_length = 14

-- the place of an elected entry's last word: whether its child identity is pending
abbrev pub pending_place : ℕ
pending_place = elected_length - 1

abbrev pub moved_length : ℕ
moved_length = 4
