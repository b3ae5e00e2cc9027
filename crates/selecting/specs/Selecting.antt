-- What a selector takes from a list of records, and their entries, as the words of a store give them: document 02, One.
use Rattle.std.specs.Prelude.{ℕ, List}
use Rattle.book.specs.Entries.{stop_words}
use Rattle.book.specs.Collect.{selects}
use Rattle.book.specs.Lists.{filter}
use Rattle.book.specs.Words.{entry_at}
use Rattle.book.specs.declared.Selector.{Selector}

-- the records of the list that the selector takes, in the order of the list
unfoldable pub selected_in : List ℕ → Selector → List ℕ → List ℕ
selected_in w selector l = filter (λ i. selects selector (entry_at w i)) l

-- the words of the entry of record i
unfoldable pub entry_words_in : List ℕ → ℕ → List ℕ
entry_words_in w i = stop_words (entry_at w i)
