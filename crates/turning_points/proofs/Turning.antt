-- The turning points of a run written one by one from the start of a list.
use Prim.Native.Nat.{ℕ, ◌+◌, ◌≤◌, ◌<◌}
use mathlib.Core.Path.{◌≡◌, refl, sym, ap, ap₂, ◌∙◌}
use mathlib.Core.Bool.{true, false}
use mathlib.Core.List.{List, [], ◌∷◌, ◌++◌, map, append_assoc}
use native.Mathlib.Numerals.{add-one}
use native.Mathlib.Omega.{arith}
use lib.ListN.{length, get_or, take, drop, set, length-set, length-map, take-append-drop, drop_of_length-le}
use lib.Seq.{length-take-le, take-suc-set, drop-set-lt, drop-cons, drop-drop}
use Rattle.book.specs.Calls.{written}
use Rattle.book.specs.TurningPoints.{turns_at, turns_from, turning_points}
use Rattle.pricelevel.specs.Price.{to_price, price_word}

-- the words of the turning points of a run, and of what is still to be written from start and here on
abbrev pub all : List ℕ → List ℕ
all prices = map price_word (turning_points (map to_price prices))

abbrev pub rest : ℕ → ℕ → List ℕ → List ℕ
rest start here prices = map price_word (turns_from (to_price start) (to_price here) (map to_price prices))

-- of the prices before place i all turns are written but one that the price read last, here, may be; the last of them,
-- or the first price, is start. The list was lent, with the first price written
pub record Turning (prices lent list : List ℕ) (start here count i : ℕ) : Type 0 where
  pub few : count < i
  pub most : i ≤ length prices
  pub room : length prices ≤ length list
  pub size : length list ≡ length lent
  pub later : drop count list ≡ drop count lent
  pub done : take count list ++ rest start here (drop i prices) ≡ all prices

pub turning_one : (prices lent : List ℕ) → length prices ≡ 1 → 1 ≤ length lent
    → (1 ≡ length (turning_points (map to_price prices))) × (set lent 0 (get_or prices 0 0) ≡ written (all prices) lent)
unfolding turning_points written
turning_one [] lent e h = absurd (omega (arith, e))
turning_one (x ∷ []) [] e h = absurd (omega arith)
turning_one (x ∷ []) (y ∷ lent) e h = (refl, refl)
turning_one (x ∷ y ∷ l) lent e h = absurd (omega (arith, e))

pub turning_start : (prices lent : List ℕ) → 2 ≤ length prices → length prices ≤ length lent
    → let begun = set lent 0 (get_or prices 0 0) in Turning prices begun begun (get_or prices 0 0) (get_or prices 1 0) 1 2
unfolding turning_points
turning_start [] lent h k = absurd (omega arith)
turning_start (x ∷ []) lent h k = absurd (omega arith)
turning_start (x ∷ y ∷ l) [] h k = absurd (omega arith)
turning_start (x ∷ y ∷ l) (z ∷ lent) h k = record {
  few = omega arith;
  most = h;
  room = k;
  size = refl;
  later = refl;
  done = refl;
}

module _ {prices lent list : List ℕ} {start here count i : ℕ} (s : Turning prices lent list start here count i) where
  -- a price written at the next place leaves the later ones
  later_still : (x : ℕ) → drop (count + 1) (set list count x) ≡ drop (count + 1) lent
  later_still x =
      drop-set-lt (count + 1) list count x (omega arith) ∙ sym (drop-drop 1 count list)
      ∙ ap (λ (l : List ℕ). drop 1 l) s.later ∙ drop-drop 1 count lent

  module _ (h : i < length prices) where
    next : drop i prices ≡ get_or prices i 0 ∷ drop (i + 1) prices
    next = rw (add-one i) (drop-cons prices i 0 h)

    pub turning_straight : turns_at (to_price start) (to_price here) (to_price (get_or prices i 0)) ≡ false
        → Turning prices lent list start (get_or prices i 0) count (i + 1)
    unfolding turns_from
    turning_straight e = record {
      few = omega (arith, s.few);
      most = omega arith;
      room = s.room;
      size = s.size;
      later = s.later;
      done = rw e at (rw next at s.done);
    }

    pub turning_turn : turns_at (to_price start) (to_price here) (to_price (get_or prices i 0)) ≡ true
        → Turning prices lent (set list count here) here (get_or prices i 0) (count + 1) (i + 1)
    unfolding turns_from
    turning_turn e =
        let after = rest here (get_or prices i 0) (drop (i + 1) prices) in
        let d : take count list ++ here ∷ after ≡ all prices = rw e at (rw next at s.done) in
        let more : take (count + 1) (set list count here) ++ after ≡ take count list ++ here ∷ after =
        rw (add-one count, take-suc-set list count here (omega (arith, s.few, s.room)))
        (append_assoc (take count list) (here ∷ []) after) in
        record {
          few = omega (arith, s.few);
          most = omega arith;
          room = rw length-set s.room;
          size = length-set list count here ∙ s.size;
          later = later_still here;
          done = more ∙ d;
        }

-- the last price is written, and the list is as if nothing else had been
pub turning_end : {prices list : List ℕ} {start here count i : ℕ} (lent : List ℕ) (x : ℕ)
    (s : Turning prices (set lent 0 x) list start here count i) → length prices ≤ i
    → (count + 1 ≡ length (turning_points (map to_price prices))) × (set list count here ≡ written (all prices) lent)
unfolding turns_from written
turning_end {prices} {list} {start} {here} {count} {i} lent x s h =
    let inside : count < length list = omega (arith, s.few, s.most, s.room) in
    let none : drop i prices ≡ [] = drop_of_length-le prices h in
    let d : take count list ++ (here ∷ []) ≡ all prices = rw none at s.done in
    let head : take (count + 1) (set list count here) ≡ all prices = rw (add-one count) (take-suc-set list count here inside ∙ d) in
    let many : length (all prices) ≡ count + 1 =
    ap length (sym head) ∙ length-take-le (count + 1) (set list count here) (rw length-set (omega arith)) in
    let tail : drop (count + 1) (set list count here) ≡ drop (length (all prices)) lent =
    rw many (later_still s here ∙ drop-set-lt (count + 1) lent 0 x (omega arith)) in (
      sym many ∙ length-map (turning_points (map to_price prices)) price_word,
      sym (take-append-drop (count + 1) (set list count here)) ∙ ap₂ (λ (l m : List ℕ). l ++ m) head tail,
    )
