-- The turning points of turning points are they themselves.
use mathlib.Core.Path.{◌≡◌, refl, ap}
use mathlib.Core.Bool.{true, false}
use mathlib.Core.List.{List, [], ◌∷◌}
use borrow.Table.Steps.{cases}
use Rattle.pricelevel.specs.declared.Price.{Price}
use Rattle.pricelevel.specs.declared.Side.{Side}
use Rattle.stop_terms.specs.Terms.{behind}
use Rattle.stop_terms.proofs.Terms.{behind_irrefl, behind_past, past_trans}
use Rattle.book.proofs.TurningPoints.{Turn, turn, turn_on, not_back}
use Rattle.book.specs.TurningPoints.{turns_at, turns_from, turning_points}

-- the first turn after o lies at h or beyond
abbrev FromOn : Side → Price → List Price → Type 0
FromOn d h [] = ⊥
FromOn d h (t ∷ ts) = behind d t.0 h.0 ≡ false

from-before : (d : Side) (h q : Price) (l : List Price) → behind d q.0 h.0 ≡ false → FromOn d q l → FromOn d h l
from-before d h q [] e f = f
from-before d h q (t ∷ ts) e f = past_trans d h.0 q.0 t.0 e f

turns_from_on : (d : Side) (o h : Price) (ps : List Price) → behind d o.0 h.0 ≡ true → FromOn d h (turns_from o h ps)
unfolding turns_from
turns_from_on d o h [] f = behind_irrefl d h.0
turns_from_on d o h (q ∷ ps) f =
    cases (turns_at o h q) (λ e. rw e (behind_irrefl d h.0))
    (λ e. rw e
    (let g : behind d q.0 h.0 ≡ false = not_back d o h q f e in
    from-before d h q (turns_from o q ps) g (turns_from_on d o q ps (behind_past d o.0 h.0 q.0 f g))))

-- what follows a first price is found again of itself
abbrev Again : Price → List Price → Type 0
Again o [] = ⊥
Again o (t ∷ ts) = turns_from o t ts ≡ t ∷ ts

turn_again : (o h q : Price) (l : List Price) (t : Turn o h q) → FromOn t.direction q l → Again h l → Again o (h ∷ l)
unfolding turns_from
turn_again o h q [] t f a = absurd f
turn_again o h q (r ∷ l) t f a =
    let g = behind_past t.direction h.0 q.0 r.0 t.on f in
    rw (turn_on t.direction o h r t.there g) (ap (λ (m : List Price). h ∷ m) a)

turns_again : (o h : Price) (ps : List Price) → Again o (turns_from o h ps)
unfolding turns_from
turns_again o h [] = refl
turns_again o h (q ∷ ps) =
    cases (turns_at o h q)
    (λ e. rw e
    (let t : Turn o h q = turn o h q e in
    turn_again o h q (turns_from h q ps) t (turns_from_on t.direction h q ps t.on) (turns_again h q ps)))
    (λ e. rw e (turns_again o q ps))

after_first : (p : Price) (l : List Price) → Again p l → turning_points (p ∷ l) ≡ p ∷ l
unfolding turning_points
after_first p [] a = absurd a
after_first p (q ∷ l) a = ap (λ (m : List Price). p ∷ m) a

pub turning_points_again : (ps : List Price) → turning_points (turning_points ps) ≡ turning_points ps
unfolding turning_points
turning_points_again [] = refl
turning_points_again (p ∷ []) = refl
turning_points_again (p ∷ q ∷ ps) = after_first p (turns_from p q ps) (turns_again p q ps)
