-- Words that are those of a valid book, and what words say apart from the chains: document 01, The store.
use Rattle.std.specs.Prelude.{ℕ, ◌-◌, ◌≤◌, ◌≡◌, List, ◌++◌, length, get_or, drop, set}
use Rattle.book.specs.Valid.{Valid, Fits}
use Rattle.book.specs.Book.{Slot, vacant, held, Book}
use Rattle.book.specs.Words.{layout, record_word, data_word}
use Rattle.book.specs.declared.StopEntry.{StopEntry}
use Rattle.book.specs.Sizes.{store_length, IsData}

-- the words w are those of a valid book of n records, whose numbers are words, and then r
pub record Stored (n : ℕ) (w : List ℕ) (b : Book) (r : List ℕ) : Type 0 where
  pub valid : Valid b
  pub fits : Fits b
  pub records : length b.slots ≡ n
  pub words : w ≡ layout b ++ r

-- record i holds another stop, and the next sequence is another
abbrev pub replaced : ℕ → StopEntry → ℕ → Book → Book
replaced i t next b = record { next = next; tick = b.tick; slots = set b.slots (i - 1) (held t); free = b.free }

-- what the words of n records say apart from the chains: the header's first words, the data of the records, and the
-- words r behind the store
pub record Contents (n : ℕ) (w : List ℕ) (count next tick : ℕ) (ss : List Slot) (r : List ℕ) : Type 0 where
  pub records : length ss ≡ n
  pub word0 : get_or w 0 0 ≡ n
  pub word1 : get_or w 1 0 ≡ count
  pub word2 : get_or w 2 0 ≡ next
  pub word3 : get_or w 3 0 ≡ tick
  pub words : (i k : ℕ) → 1 ≤ i → i ≤ n → IsData k → record_word w i k ≡ data_word (get_or ss (i - 1) vacant) k
  pub beyond : drop (store_length n) w ≡ r
