-- What a chain of links is, and what linking a record in and out writes: document 01, The store.
use Rattle.std.specs.Prelude.{ℕ, ◌≤◌, ◌<◌, ◌≡◌, cond, List, [], ◌∷◌, ltb, eqb, length, get_or, set}
use Rattle.book.specs.Words.{cell}
use Rattle.book.specs.Sizes.{record_length}
use Rattle.chains.specs.Records.{Room}

-- the word at position p names the first record of l, and word k of each the next, up to 0; each is one of the n
-- records
abbrev pub Linked : ℕ → List ℕ → ℕ → ℕ → List ℕ → Type 0
Linked n w k p [] = get_or w p 0 ≡ 0
Linked n w k p (j ∷ l) = (get_or w p 0 ≡ j) × (1 ≤ j) × (j ≤ n) × Linked n w k (cell j k) l

-- a walk along a chain stays in the slice: the n records are there, k is a word of a record, and the chain starts at
-- one of the words
pub record Walk (n : ℕ) (w : List ℕ) (k p : ℕ) (l : List ℕ) : Type 0 where
  pub inside : Room n w
  pub link : k < record_length
  pub start : p < length w
  pub linked : Linked n w k p l

-- where the word stands that names what comes after the records l, in the chain that the word at p starts
abbrev pub word_after : ℕ → ℕ → List ℕ → ℕ
word_after k p [] = p
word_after k p (j ∷ l) = word_after k (cell j k) l

------------------------------------------------------------------------
-- Linking in and out

-- where the word stands that is to name i, in the chain that the word at p starts: past each record that does not rank
-- after i
unfoldable pub place : (ℕ → ℕ) → ℕ → ℕ → ℕ → List ℕ → ℕ
place rk k i p [] = p
place rk k i p (j ∷ l) = cond (ltb (rk i) (rk j)) p (place rk k i (cell j k) l)

-- where the word stands that names i
unfoldable pub spot : ℕ → ℕ → ℕ → List ℕ → ℕ
spot k i p [] = p
spot k i p (j ∷ l) = cond (eqb j i) p (spot k i (cell j k) l)

-- the word at q names i, and word k of i what the word at q named
abbrev pub put_in : List ℕ → ℕ → ℕ → ℕ → List ℕ
put_in w k i q = set (set w (cell i k) (get_or w q 0)) q i

-- the word at q names what word k of i names
abbrev pub put_out : List ℕ → ℕ → ℕ → ℕ → List ℕ
put_out w k i q = set w q (get_or w (cell i k) 0)
