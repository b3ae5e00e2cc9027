-- The count in the definition of a run of numbers never cuts the run short: any two counts above the bytes that are left give the same.
use Prim.Native.Nat.{ℕ, zero, suc, ◌+◌, ◌≤◌, ◌<◌}
use mathlib.Core.Path.{◌≡◌, refl}
use mathlib.Core.Bool.{Bool, true, false}
use mathlib.Core.List.{List}
use native.Mathlib.Omega.{arith}
use borrow.Author.Tests.{eqb-true, eqb-false}
use lib.Dec.{eqb}
use lib.ListN.{length}
use Rattle.text_words.proofs.Within.{end-within, word_order}
use Rattle.text_words.specs.Words.{word_start, word_end}
use Rattle.text_numbers.proofs.Digits.{number_next}
use Rattle.text_numbers.specs.Numbers.{number_between, number_at, count_from}

-- a number has a word, behind which the next one is looked for
moves_test : (line : List ℕ) (at s e : ℕ) (b : Bool) → eqb s e ≡ b → at ≤ s → s ≤ e → (number_between line s e).fault ≡ 0 → at < (number_between line s e).next
unfolding number_between
moves_test line at s e true t h k f =
    let z : ◌≡◌ {A = ℕ} 1 0 = simp t at f in
    absurd (omega arith)
moves_test line at s e false t h k f =
    let n : (number_between line s e).next ≡ e = number_next line s e in
    let d : s ≡ e → ⊥ = eqb-false s e t in
    rw n (omega (arith, d))

number-moves : (line : List ℕ) (at : ℕ) → (number_at line at).fault ≡ 0 → at < (number_at line at).next
unfolding number_at
number-moves line at f =
    let o = word_order line at in
    moves_test line at (word_start line at) (word_end line at) (eqb (word_start line at) (word_end line at)) refl o.0 o.1 f

number-within : (line : List ℕ) (at : ℕ) → at ≤ length line → (number_at line at).next ≤ length line
unfolding number_at
number-within line at h = rw (number_next line (word_start line at) (word_end line at)) (end-within line at h)

enough_test : (m k : ℕ) (line : List ℕ) (from at n : ℕ) (b : Bool) → eqb (number_at line at).fault 0 ≡ b
    → ((number_at line at).fault ≡ 0 → count_from m line from (number_at line at).next (n + 1) ≡ count_from k line from (number_at line at).next (n + 1))
    → count_from (suc m) line from at n ≡ count_from (suc k) line from at n
unfolding count_from
enough_test m k line from at n true t next = simp t (next (eqb-true _ _ t))
enough_test m k line from at n false t next = simp t

pub count_enough : (m k : ℕ) (line : List ℕ) (from at n : ℕ) → at ≤ length line → length line < at + m → length line < at + k
    → count_from m line from at n ≡ count_from k line from at n
count_enough zero k line from at n w h g = absurd (omega arith)
count_enough (suc m) zero line from at n w h g = absurd (omega arith)
count_enough (suc m) (suc k) line from at n w h g =
    enough_test m k line from at n (eqb (number_at line at).fault 0) refl
    (λ f. count_enough m k line from (number_at line at).next (n + 1) (number-within line at w) (omega (arith, number-moves line at f)) (omega (arith, number-moves line at f)))
