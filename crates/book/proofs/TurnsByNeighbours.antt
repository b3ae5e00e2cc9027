-- The turning points read another way: of a run without its level stretches, the first price, those that lie above or
-- below both neighbours, and the last.
use mathlib.Core.Path.{◌≡◌, refl, sym, ap, subst, ◌∙◌}
use mathlib.Core.Bool.{true, false, cond, false≢true}
use mathlib.Core.List.{List, [], ◌∷◌, ◌++◌}
use native.Mathlib.Omega.{arith}
use borrow.Author.Tests.{eqb-true, eqb-false, lt-ltb, le-ltb}
use borrow.Table.Steps.{cases}
use lib.Dec.{ltb, eqb}
use Rattle.pricelevel.specs.declared.Price.{Price}
use Rattle.stop_terms.proofs.Terms.{tests}
use Rattle.book.specs.Evaluation.{last_of}
use Rattle.book.specs.TurningPoints.{turns_at, turns_from, turning_points}

-- what follows a price, without each that is the price before it
pub uneven : Price → List Price → List Price
uneven before [] = []
uneven before (p ∷ ps) = cond (eqb before.0 p.0) [] (p ∷ []) ++ uneven p ps

-- those that lie above or below both neighbours, the first of which stands before the list
pub extremes : Price → List Price → List Price
extremes before [] = []
extremes before (p ∷ []) = []
extremes before (p ∷ after ∷ ps) = cond (turns_at before p after) (p ∷ []) [] ++ extremes p (after ∷ ps)

-- two prices on one side of a third
record OneSide (a b h : Price) : Type 0 where
  below : ltb a.0 h.0 ≡ ltb b.0 h.0
  above : ltb h.0 a.0 ≡ ltb h.0 b.0

one_side_turns : (a b h q : Price) → OneSide a b h → turns_at a h q ≡ turns_at b h q
unfolding turns_at
one_side_turns a b h q s = rw (s.below, s.above)

level_no_turn : (a h : Price) → turns_at a h h ≡ false
unfolding turns_at
level_no_turn a h =
    rw (le-ltb h.0 h.0 (omega arith)) (cases (ltb a.0 h.0) (λ e. rw e (cases (ltb h.0 a.0) (λ f. rw f) (λ f. rw f)))
    (λ e. rw e (cases (ltb h.0 a.0) (λ f. rw f) (λ f. rw f))))

-- without a turn at h, what came before h stays on its side of the next price
one_side_next : (a h q : Price) → turns_at a h q ≡ false → (h.0 ≡ q.0 → ⊥) → OneSide a h q
unfolding turns_at
one_side_next a h q e n =
    cases (ltb h.0 q.0)
    (λ f. cases (ltb h.0 a.0)
    (λ g. absurd (false≢true (sym (rw (le-ltb a.0 h.0 (omega (arith, tests)), f, g) at e))))
    (λ g. record {
      below = rw (f, lt-ltb a.0 q.0 (omega (arith, tests)));
      above = rw (le-ltb q.0 a.0 (omega (arith, tests)), le-ltb q.0 h.0 (omega (arith, tests)));
    }))
    (λ f.
    let back : ltb q.0 h.0 ≡ true = lt-ltb q.0 h.0 (omega (arith, tests, n)) in
    cases (ltb a.0 h.0) (λ g. absurd (false≢true (sym (rw (g, back) at e))))
    (λ g. record {
      below = rw (f, le-ltb a.0 q.0 (omega (arith, tests)));
      above = rw (back, lt-ltb q.0 a.0 (omega (arith, tests)));
    }))

-- the price that the run turned at last, and the one before `here`, lie on one side of `here`
by_neighbours : (start before here : Price) (ps : List Price) → OneSide start before here
    → turns_from start here ps ≡ extremes before (here ∷ uneven here ps) ++ (last_of here ps ∷ [])
unfolding turns_from uneven extremes last_of
by_neighbours start before here [] s = refl
by_neighbours start before here (q ∷ ps) s =
    cases (eqb here.0 q.0)
    (λ e.
    let same : here ≡ q = λ i. record { 0 = eqb-true here.0 q.0 e i } in
    let again : eqb q.0 q.0 ≡ true = rw same at e in
    subst (λ (h : Price). turns_from start h (q ∷ ps) ≡ extremes before (h ∷ uneven h (q ∷ ps)) ++ (last_of h (q ∷ ps) ∷ []))
    (sym same)
    (rw (again, level_no_turn start q) (by_neighbours start before q ps (rw same at s))))
    (λ e. rw (e, ← one_side_turns start before here q s) (cases (turns_at start here q)
    (λ f. rw f (ap (λ (l : List Price). here ∷ l) (by_neighbours here here q ps (record { below = refl; above = refl }))))
    (λ f. rw f (by_neighbours start here q ps (one_side_next start here q f (eqb-false here.0 q.0 e))))))

extremes_level : (p : Price) (l : List Price) → extremes p (p ∷ l) ≡ extremes p l
unfolding extremes turns_at
extremes_level p [] = refl
extremes_level p (q ∷ l) = rw (le-ltb p.0 p.0 (omega arith))

pub turns_by_neighbours : (p q : Price) (ps : List Price)
    → turning_points (p ∷ q ∷ ps) ≡ p ∷ extremes p (uneven p (q ∷ ps)) ++ (last_of q ps ∷ [])
unfolding turning_points uneven extremes
turns_by_neighbours p q ps =
    let sides : OneSide p p q = record { below = refl; above = refl } in
    ap (λ (l : List Price). p ∷ l) (cases (eqb p.0 q.0)
    (λ e.
    let same : p ≡ q = λ i. record { 0 = eqb-true p.0 q.0 e i } in
    let level : extremes p (q ∷ uneven q ps) ≡ extremes p (uneven q ps) = rw same (extremes_level q (uneven q ps)) in
    rw e (by_neighbours p p q ps sides ∙ ap (λ (l : List Price). l ++ (last_of q ps ∷ [])) level))
    (λ e. rw e (by_neighbours p p q ps sides)))
