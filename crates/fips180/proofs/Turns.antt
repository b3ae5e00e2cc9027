-- One turn of each loop: the schedule grows by a word, the working variables take a step, the hash value a block.
use Prim.Native.Nat.{ℕ, ◌+◌, ◌-◌, ◌≤◌, ◌<◌}
use mathlib.Core.Path.{◌≡◌, sym, ap, ◌∙◌}
use mathlib.Core.Bool.{true, false}
use mathlib.Core.List.{List, [], ◌∷◌, ◌++◌}
use native.Mathlib.Omega.{arith}
use native.Mathlib.Numerals.{add-one}
use borrow.Author.Tests.{ltb-false}
use borrow.Table.Steps.{cases}
use lib.Dec.{ltb}
use lib.ListN.{length, get_or, take, set}
use lib.Seq.{get_or-take, take-suc-set}
use Rattle.fips180.specs.Fips.{next_word, schedule, step, steps, block, blocks}
use Rattle.fips180.specs.declared.State.{State}

-- W_t needs no word but those before it
next_word-take : (p : List ℕ) (i : ℕ) (w : List ℕ) (t : ℕ) → next_word p i (take t w) t ≡ next_word p i w t
unfolding next_word
next_word-take p i w t =
    cases (ltb t 16) (λ (e : ltb t 16 ≡ true). simp e)
    (λ (e : ltb t 16 ≡ false).
    let g : 16 ≤ t = ltb-false t 16 e in
    rw (
      get_or-take t w (t - 3) 0 (omega arith),
      get_or-take t w (t - 8) 0 (omega arith),
      get_or-take t w (t - 14) 0 (omega arith),
      get_or-take t w (t - 16) 0 (omega arith),
    ))

pub schedule_turn : (p : List ℕ) (i : ℕ) (w : List ℕ) (t x : ℕ) → t < length w → take t w ≡ schedule p i t
    → x ≡ next_word p i w t
    → take (t + 1) (set w t x) ≡ schedule p i (t + 1)
unfolding schedule
schedule_turn p i w t x h e n =
    rw add-one
    (take-suc-set w t x h
    ∙ ap (λ (y : ℕ). take t w ++ (y ∷ [])) (n ∙ sym (next_word-take p i w t))
    ∙ ap (λ (l : List ℕ). l ++ (next_word p i l t ∷ [])) e)

pub steps_turn : (w : List ℕ) (t : ℕ) (s r q : State) → r ≡ steps w t s → q ≡ step t (get_or w t 0) r
    → q ≡ steps w (t + 1) s
unfolding steps
steps_turn w t s r q e n = rw add-one (n ∙ ap (step t (get_or w t 0)) e)

pub blocks_turn : (p : List ℕ) (i : ℕ) (s q : State) → s ≡ blocks p i → q ≡ block p i s → q ≡ blocks p (i + 1)
unfolding blocks
blocks_turn p i s q e n = rw add-one (n ∙ ap (block p i) e)
