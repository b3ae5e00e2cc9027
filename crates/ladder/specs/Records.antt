-- The entry of a record in a ladder, as the words of a store give its terms: document 02, Three.
use Rattle.std.specs.Prelude.{ℕ, List}
use Rattle.book.specs.Ladder.{ladder_entry, ladder_words}
use Rattle.book.specs.Words.{entry_at}
use Rattle.pricelevel.specs.declared.Price.{Price}

unfoldable pub ladder_words_in : List Price → List ℕ → ℕ → List ℕ
ladder_words_in prices w i = ladder_words (ladder_entry prices (entry_at w i).terms)
