-- A number and its two words: each gives the other.
use Prim.Native.Nat.{ℕ, zero, suc, ◌+◌, ◌*◌, ◌^◌, ◌≤◌, ◌<◌}
use mathlib.Core.Path.{◌≡◌, sym}
use native.Mathlib.Nat.{div-add-mod'}
use native.Mathlib.Omega.{arith}
use lib.Arith.{digits_div, digits_mod}
use Rattle.pricelevel.specs.TwoWords.{number_of, two_words}
use Rattle.pricelevel.specs.declared.TwoWords.{TwoWords}

pub number-two_words : (n : ℕ) → number_of (two_words n) ≡ n
unfolding two_words
number-two_words n = div-add-mod' n (2 ^ 64)

-- so an equation of numbers decides both words
pub two_words-number : (t : TwoWords) (n : ℕ) → t.low < 2 ^ 64 → number_of t ≡ n → t ≡ two_words n
unfolding two_words
two_words-number t n low e = rw (sym e, digits_div t.high low, digits_mod t.high low)

-- the sum of two words carries at most 1
pub carry_most : (high low a b : ℕ) → high * 2 ^ 64 + low ≡ a + b → a < 2 ^ 64 → b < 2 ^ 64 → high ≤ 1
carry_most zero low a b e f g = omega arith
carry_most (suc zero) low a b e f g = omega arith
carry_most (suc (suc k)) low a b e f g = absurd (omega (arith, e, f, g))

-- a word added to a number: the low words' sum, and its carry added to the high word
pub number_plus : (sum low : TwoWords) (x : ℕ) → number_of low ≡ sum.low + x
    → number_of (record { high = sum.high + low.high; low = low.low }) ≡ number_of sum + x
number_plus sum low x e = omega (arith, e)
