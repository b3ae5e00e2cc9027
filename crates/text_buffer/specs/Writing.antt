-- What a writer into a lent buffer does.
use Rattle.std.specs.Prelude.{ℕ, ◌+◌, ◌≡◌, List, length}
use Rattle.std.proofs.lemmas.List.Edits.{sets}

-- A text stands in a buffer from a place on, as far as the buffer goes; every other byte stays; `next` is the place behind the text, which is past the buffer's
-- end where the text had no room.
pub record Put (old : List ℕ) (at : ℕ) (text new : List ℕ) (next : ℕ) : Type 0 where
  pub bytes : new ≡ sets old at text
  pub place : next ≡ at + length text
