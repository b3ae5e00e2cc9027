-- The search for an identity along the records of a chain: document 01, The store.
use Rattle.std.specs.Prelude.{ℕ, cond, List, [], ◌∷◌, None, Option, Some}
use Rattle.pricelevel.specs.Identity.{same_id}
use Rattle.pricelevel.specs.declared.Id.{Id}
use Rattle.book.specs.Book.{Pending}
use Rattle.book.specs.Words.{entry_at}

-- the first of these records that holds the identity, or 0
unfoldable pub first_named : List ℕ → Id → List ℕ → ℕ
first_named w id [] = 0
first_named w id (i ∷ l) = cond (same_id id (entry_at w i).id) i (first_named w id l)

-- the record of what a search found, or 0
unfoldable pub index_or0 : Option Pending → ℕ
index_or0 None = 0
index_or0 (Some p) = p.index
