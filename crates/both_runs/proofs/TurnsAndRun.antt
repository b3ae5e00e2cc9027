-- Document 02, Five, over the two calls, from the theorem over their definitions.
use Prim.Native.Nat.{ℕ, ◌≤◌}
use mathlib.Core.Path.{◌≡◌, refl, sym, ap, subst, ◌∙◌}
use mathlib.Core.List.{List, [], ◌∷◌, map}
use native.Mathlib.Omega.{arith}
use lib.ListN.{length, take, length-map, length-append}
use lib.Seq.{take_at}
use Rattle.error.specs.Answer.{Answer, refused, accepted}
use Rattle.error.specs.Questions.{decide}
use Rattle.pricelevel.specs.Price.{to_price, price_word}
use Rattle.pricelevel.specs.declared.Price.{Price}
use Rattle.book.proofs.TurningPointsCall.{turning_points_accepted, turning_points_listed}
use Rattle.book.proofs.TurnsDecide.{turns-decide}
use Rattle.book.specs.Calls.{written, walk_call}
use Rattle.book.specs.Entries.{elected_words}
use Rattle.book.specs.Sizes.{most_prices}
use Rattle.book.specs.TurningPoints.{turning_points, turning_points_call}
use Rattle.book.specs.declared.Counts.{Counts}
use Rattle.book.specs.declared.Settings.{Settings}
use Rattle.both_ways.proofs.AlikeWords.{Leaves, decided_words}
use Rattle.both_ways.specs.Alike.{Decided}
use Rattle.both_runs.specs.Turns.{walk_listed, turns_call, Comparable}
use Rattle.std.specs.Prelude.{Option}

------------------------------------------------------------------------
-- The prices that are listed

read_back : (l : List Price) → map to_price (map price_word l) ≡ l
read_back [] = refl
read_back (p ∷ l) = ap (λ (m : List Price). p ∷ m) (read_back l)

module _ (ps : List Price) (places n : ℕ) (told : accepted n ≡ (turning_points_call ps places).answer) (lent turns : List ℕ)
    (h : turns ≡ written (map price_word (turning_points_call ps places).listed) lent) where
  size : length (map price_word (turning_points_call ps places).listed) ≡ n
  size = length-map (turning_points_call ps places).listed price_word ∙ turning_points_listed ps places n told

  pub listed_inside : n ≤ length turns
  unfolding written
  listed_inside = rw (h, length-append) (omega (arith, size))

  pub over_listed : (s : Settings) (prev : Option Price) (w : List ℕ) (elected : ℕ)
      → walk_call s prev (map to_price (take n turns)) w elected ≡ turns_call s prev ps places w elected
  unfolding written turns_call walk_listed
  over_listed s prev w elected =
      let l = (turning_points_call ps places).listed in
      let t : take n turns ≡ map price_word l = rw h (take_at (map price_word l) _ n size) in
      let e : map to_price (take n turns) ≡ l = ap (λ (m : List ℕ). map to_price m) t ∙ read_back l in
      rw (e, ← told)

pub not_listed : (s : Settings) (prev : Option Price) (ps : List Price) (places : ℕ) (w : List ℕ) (elected : List (List ℕ))
    (k : ℕ) → refused k ≡ (turning_points_call ps places).answer
    → let o = turns_call s prev ps places w (length elected) in (refused k ≡ o.answer) × (w ≡ o.words)
    × (elected ≡ written (map elected_words o.elected) elected)
unfolding turns_call walk_listed written
not_listed s prev ps places w elected k told = rw (← told) (refl, refl, refl)

------------------------------------------------------------------------
-- The theorem

-- where the turning points are not refused, the walk is over them
turns-walk : (s : Settings) (prev : Option Price) (ps : List Price) (places : ℕ) (w : List ℕ) (elected : ℕ) → 1 ≤ length ps
    → length ps ≤ most_prices
    → length ps ≤ places
    → turns_call s prev ps places w elected ≡ walk_call s prev (turning_points ps) w elected
unfolding turns_call walk_listed turning_points_call decide
turns-walk s prev ps places w elected h k l = rw (turning_points_accepted ps places h k l)

-- of what the calls answer and leave by their contracts
pub decided : (s : Settings) (prev : Option Price) (ps : List Price) (places : ℕ) (w v : List ℕ) (elected listed : List (List ℕ))
    (a b : Answer Counts) (w' v' : List ℕ) (elected' listed' : List (List ℕ))
    → Leaves (turns_call s prev ps places w (length elected)) elected a w' elected'
    → Leaves (walk_call s prev ps v (length listed)) listed b v' listed'
    → Comparable ps w v places (length elected) (length listed)
    → Decided a b w' v' elected' listed'
decided s prev ps places w v elected listed a b w' v' elected' listed' h k c =
    let h' = rw (turns-walk s prev ps places w (length elected) c.some c.few c.places_room) at h in
    let k' = subst (λ (u : List ℕ). Leaves (walk_call s prev ps u (length listed)) listed b v' listed') (sym c.equal) k in
    decided_words _ _ (turns-decide s prev ps w (length elected) (length listed) c.formed c.some c.few
    c.elected_room c.listed_room) elected listed a b w' v' elected' listed' h' k'
