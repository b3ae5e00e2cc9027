-- Demand 3: a run of prices that never falls, or never rises, is decided by its ends.
use Prim.Native.Nat.{ℕ, ◌≤◌, ◌*◌}
use mathlib.Core.Path.{◌≡◌}
use mathlib.Core.Bool.{true}
use mathlib.Core.List.{List, ◌∷◌}
use native.Mathlib.Omega.{arith}
use lib.ListN.{length}
use Rattle.error.specs.Questions.{decide}
use Rattle.pricelevel.specs.declared.Price.{Price}
use Rattle.pricelevel.specs.declared.Side.{Side}
use Rattle.book.proofs.AlikeOutcomes.{decided_alike, segment_accepted, walk_accepted, store_trails}
use Rattle.book.proofs.OneWay.{segment-walk}
use Rattle.book.specs.Calls.{Settings, pending_in, segment_call, walk_call}
use Rattle.book.specs.Evaluation.{Evaluated, last_of, segment, walk}
use Rattle.book.specs.Runs.{Monotone, DecidedByEnds}
use Rattle.book.specs.Sizes.{most_prices}
use Rattle.book.specs.Words.{book_of, well_formed}
use Rattle.book.specs.declared.PrintSegment.{PrintSegment}
use Rattle.std.specs.Prelude.{Option}

-- Demand 3. For every well-formed store, every run of 1 to 4,096 prices that never falls or never rises, prev or none,
-- collar or none, any namespace, kill switch on or off, and any lent lists as long as the calls demand: neither call is
-- refused; both answer the same number elected; the elected entries are alike, entry by entry, in identity, side, stop,
-- quantity, sequence, both words of the limit, child identity and whether that child is pending; and the two stores are
-- equal in every word.
pub ends-decide : (s : Settings) (prev : Option Price) (d : Side) (first : Price) (rest : List Price) (w : List ℕ)
    (ends moved run : ℕ)
    → well_formed w ≡ true → Monotone d first rest → length (first ∷ rest) ≤ most_prices
    → pending_in w ≤ ends → 2 * pending_in w ≤ moved → pending_in w ≤ run
    → DecidedByEnds (segment_call s (record {
      prev = prev;
      first = first;
      last = last_of first rest;
    }) w ends moved) (walk_call s prev (first ∷ rest) w run)
unfolding segment_call walk_call decide
ends-decide s prev d first rest w ends moved run formed goes few h k l =
    let prints : PrintSegment = record { prev = prev; first = first; last = last_of first rest } in
    let o : Evaluated = segment s.kill prints (book_of w) in
    let r : Evaluated = walk s.kill prev (first ∷ rest) (book_of w) in
    rw (segment_accepted w formed ends h moved k, walk_accepted w formed run l (first ∷ rest) (omega arith) few)
    (decided_alike s w o r (segment-walk s.kill prev d first rest (book_of w) (store_trails w formed) goes))
