-- Lists handed in to a commit, the elected as records and the moved as words.
use Rattle.std.specs.Prelude.{ℕ, Bool, ◌&&◌, List, map}
use Rattle.book.specs.Commit.{same_elected}
use Rattle.book.specs.Entries.{moved_words}
use Rattle.book.specs.Lists.{same_by, same_list}
use Rattle.book.specs.declared.Elected.{Elected}
use Rattle.book.specs.declared.Moved.{Moved}

unfoldable pub same_elected_records : List Elected → List (List ℕ) → List Elected → List Moved → Bool
same_elected_records elected moved listed shifted =
    same_by same_elected elected listed && same_by same_list moved (map moved_words shifted)
