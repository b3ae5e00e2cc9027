-- The words of an elected entry that is handed in: document 02, Six. Those of a list's entry leave out the kind of its
-- child, which is a UUID in every list that an evaluation writes, and need not be one here.
use Rattle.std.specs.Prelude.{ℕ, ◌+◌, ◌*◌, Bool, cond, List, [], ◌∷◌, ◌++◌, take}
use Rattle.pricelevel.specs.Identity.{kind_number}
use Rattle.book.specs.Entries.{elected_words}
use Rattle.book.specs.Sizes.{pending_place}
use Rattle.book.specs.declared.Elected.{Elected}

-- whether the child is pending, and twice the number of its kind
unfoldable pub pending_word : Bool → ℕ → ℕ
pending_word pending kind = 2 * kind + cond pending 1 0

-- an entry's words with that as the last: another word than 0 or 1, where its child is no UUID
unfoldable pub handed_words : Elected → List ℕ
handed_words e = take pending_place (elected_words e) ++ (pending_word e.pending (kind_number e.child.kind) ∷ [])
