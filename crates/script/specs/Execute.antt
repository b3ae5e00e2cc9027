-- The elected entries of a lent list execute: which of them, and how far they come.
use Rattle.std.specs.Prelude.{ℕ, suc, ◌+◌, cond, List, [], ◌∷◌, ◌≡◌, get_or}
use Rattle.book.specs.Script.{Executed}
use Rattle.book.specs.Sizes.{pending_place}
use Rattle.book.specs.declared.PrintSegment.{PrintSegment}
use Rattle.book.specs.declared.Elected.{Elected}
use Rattle.script.specs.Queue.{Enqueued}

-- the last word of an elected entry: 1 if its child identity is pending, else 0
unfoldable pub pending_word : Elected → ℕ
pending_word e = cond e.pending 1 0

-- the entries of a lent list, from this one on, say of each elected whether its child identity is pending
abbrev pub Flags : List (List ℕ) → ℕ → List Elected → Type 0
Flags list from [] = Unit {0}
Flags list from (e ∷ es) = (get_or (get_or list from []) pending_place 0 ≡ pending_word e) × Flags list (suc from) es

-- elected have executed so: the script entries that are used, the queue's list and its tail, before and after
pub record Advanced (run : Executed) (used : ℕ) (queue : List PrintSegment) (tail : ℕ) (used' : ℕ) (queue' : List PrintSegment)
    (tail' : ℕ) : Type 0 where
  pub uses : used' ≡ used + run.used
  pub adds : Enqueued run.segments queue tail queue' tail'
