-- Numbers in decimal as theorems, which the checker computes.
use mathlib.Core.Path.{◌≡◌, refl}
use mathlib.Core.List.{[], ◌∷◌}
use Prim.Native.Nat.{◌^◌, ◌-◌}
use Rattle.text_buffer.specs.Digits.{digits, width, decimal_of}

-- "0"
nought : decimal_of (0) ≡ 48 ∷ []
unfolding decimal_of width digits
nought = refl

-- "9"
nine : decimal_of (9) ≡ 57 ∷ []
unfolding decimal_of width digits
nine = refl

-- "10"
ten : decimal_of (10) ≡ 49 ∷ 48 ∷ []
unfolding decimal_of width digits
ten = refl

-- "10001"
ten_thousand_and_one : decimal_of (10001) ≡ 49 ∷ 48 ∷ 48 ∷ 48 ∷ 49 ∷ []
unfolding decimal_of width digits
ten_thousand_and_one = refl

-- "18446744073709551615"
word : decimal_of (2 ^ 64 - 1) ≡ 49 ∷ 56 ∷ 52 ∷ 52 ∷ 54 ∷ 55 ∷ 52 ∷ 52 ∷ 48 ∷ 55 ∷ 51 ∷ 55 ∷ 48 ∷ 57 ∷ 53 ∷ 53 ∷ 49 ∷ 54 ∷ 49 ∷ 53 ∷ []
unfolding decimal_of width digits
word = refl

-- "18446744073709551616"
past_a_word : decimal_of (2 ^ 64) ≡ 49 ∷ 56 ∷ 52 ∷ 52 ∷ 54 ∷ 55 ∷ 52 ∷ 52 ∷ 48 ∷ 55 ∷ 51 ∷ 55 ∷ 48 ∷ 57 ∷ 53 ∷ 53 ∷ 49 ∷ 54 ∷ 49 ∷ 54 ∷ []
unfolding decimal_of width digits
past_a_word = refl

-- "340282366920938463463374607431768211455"
two_words_digits : decimal_of (2 ^ 128 - 1) ≡ 51 ∷ 52 ∷ 48 ∷ 50 ∷ 56 ∷ 50 ∷ 51 ∷ 54 ∷ 54 ∷ 57 ∷ 50 ∷ 48 ∷ 57 ∷ 51 ∷ 56 ∷ 52 ∷ 54 ∷ 51 ∷ 52 ∷ 54 ∷ 51 ∷ 51 ∷ 55 ∷ 52 ∷ 54 ∷ 48 ∷ 55 ∷ 52 ∷ 51 ∷ 49 ∷ 55 ∷ 54 ∷ 56 ∷ 50 ∷ 49 ∷ 49 ∷ 52 ∷ 53 ∷ 53 ∷ []
unfolding decimal_of width digits
two_words_digits = refl
