-- A run that never falls, or never rises: its turning points are its ends, and so a segment over them agrees with the
-- walk over the run.
use Prim.Native.Nat.{ℕ}
use mathlib.Core.Path.{◌≡◌, refl, ap, subst}
use mathlib.Core.Bool.{Bool, false}
use mathlib.Core.List.{List, [], ◌∷◌}
use native.Mathlib.Omega.{arith}
use borrow.Author.Tests.{eqb-true, eq-eqb}
use borrow.Table.Steps.{cases}
use lib.Dec.{eqb}
use Rattle.pricelevel.specs.declared.Price.{Price}
use Rattle.pricelevel.specs.declared.Side.{Side}
use Rattle.pricelevel.specs.declared.Side.TheVariants.{Buy, Sell}
use Rattle.stop_terms.specs.Terms.{behind}
use Rattle.stop_terms.proofs.Terms.{tests, past_trans}
use Rattle.book.proofs.Agreement.{Agree, agree_refl, agree_trans, agree-and_then, agree_done, point_again, turning_points-walk}
use Rattle.book.proofs.Points.{BookSettled, point-settled}
use Rattle.book.proofs.Stops.{Trails}
use Rattle.book.proofs.TurningPoints.{straight_on}
use Rattle.book.specs.Book.{Book}
use Rattle.book.specs.Evaluation.{point, sells_first, falls_to, walk_from, segment, last_of, walk}
use Rattle.book.specs.Lists.{All}
use Rattle.book.specs.Runs.{Goes, Monotone}
use Rattle.book.specs.TurningPoints.{turns_from, turning_points}
use Rattle.book.specs.declared.PrintSegment.{PrintSegment}
use Rattle.std.specs.Prelude.{Option}

------------------------------------------------------------------------
-- Its turning points

goes_past : (d : Side) (p q : ℕ) → Goes d p q → behind d q p ≡ false
unfolding behind
goes_past Sell p q h = omega (arith, tests)
goes_past Buy p q h = omega (arith, tests)

goes_on : (d : Side) (o h : Price) (ps : List Price) → behind d h.0 o.0 ≡ false → Monotone d h ps
    → turns_from o h ps ≡ last_of h ps ∷ []
unfolding turns_from last_of
goes_on d o h [] e m = refl
goes_on d o h (q ∷ ps) e m =
    let g = goes_past d h.0 q.0 m.0 in
    rw (straight_on d o h q e g) (goes_on d o q ps (past_trans d o.0 h.0 q.0 e g) m.1)

-- of two or more prices the ends are both there, even if they are equal
pub turning_points_one_way : (d : Side) (p q : Price) (ps : List Price) → Monotone d p (q ∷ ps)
    → turning_points (p ∷ q ∷ ps) ≡ p ∷ last_of q ps ∷ []
unfolding turning_points
turning_points_one_way d p q ps m =
    ap (λ (l : List Price). p ∷ l) (goes_on d p q ps (goes_past d p.0 q.0 m.0) m.1)

------------------------------------------------------------------------
-- The segment over its ends

-- a segment is the walk over its first and last price: where they are equal, a second point does nothing
segment-ends : (kill : Bool) (s : PrintSegment) (b : Book) → All Trails b.slots
    → Agree (segment kill s b) (walk kill s.prev (s.first ∷ s.last ∷ []) b)
unfolding segment walk walk_from last_of
segment-ends kill s b h =
    let falls = falls_to s.first s.last in
    let sells = sells_first falls s.prev s.first in
    let one = point kill sells s.first b in
    cases (eqb s.first.0 s.last.0)
    (λ e. rw e
    (let same : s.first ≡ s.last = λ i. record { 0 = eqb-true s.first.0 s.last.0 e i } in
    let w = subst (λ (p : Price). BookSettled kill p one.book) same (point-settled kill sells s.first b h) in
    agree-and_then one (agree_trans (point_again kill _ s.last one.book w) (agree_done _))))
    (λ e. rw e agree_refl)

-- a run that never falls, or never rises, has its ends for turning points
pub segment-walk : (kill : Bool) (prev : Option Price) (d : Side) (first : Price) (rest : List Price) (b : Book)
    → All Trails b.slots
    → Monotone d first rest
    → Agree (segment kill (record {
      prev = prev;
      first = first;
      last = last_of first rest;
    }) b) (walk kill prev (first ∷ rest) b)
unfolding segment walk last_of
segment-walk kill prev d first [] b h r = rw (eq-eqb first.0 first.0 refl) agree_refl
segment-walk kill prev d first (q ∷ ps) b h r =
    agree_trans (segment-ends kill (record { prev = prev; first = first; last = last_of q ps }) b h)
    (rw (turning_points_one_way d first q ps r) at (turning_points-walk kill prev (first ∷ q ∷ ps) b h))
