-- The queue of a pass: its segments in a lent list.
use Rattle.std.specs.Prelude.{ℕ, ◌+◌, ◌≤◌, List, [], ◌∷◌, ◌≡◌, length, None, Option, Some}
use Rattle.std.proofs.Math.Seq.{slice}
use Rattle.std.proofs.lemmas.List.Edits.{sets}
use Rattle.book.specs.declared.PrintSegment.{PrintSegment}

-- the queue that stands in a lent list from head up to tail
pub record Queued (list : List PrintSegment) (head tail : ℕ) (queue : List PrintSegment) : Type 0 where
  pub stand : slice head tail list ≡ queue
  pub ends : tail ≡ head + length queue
  pub room : tail ≤ length list

-- the segment that a pass takes next
unfoldable pub first_of : List PrintSegment → Option PrintSegment
first_of [] = None
first_of (prints ∷ queue) = Some prints

-- more segments put behind the queue: the lent list and its tail before and after
pub record Enqueued (more list : List PrintSegment) (tail : ℕ) (list' : List PrintSegment) (tail' : ℕ) : Type 0 where
  pub stand : list' ≡ sets list tail more
  pub ends : tail' ≡ tail + length more
