-- Numbers of two words as theorems, which the checker computes.
use mathlib.Core.Path.{◌≡◌, refl}
use mathlib.Core.List.{[], ◌∷◌}
use Prim.Native.Nat.{◌^◌, ◌-◌}
use Rattle.text_buffer.specs.Digits.{digits, width, decimal_of}
use Rattle.text_wide.specs.Wide.{wide_of}

-- "18446744073709551616"
past_a_word : wide_of 1 0 ≡ 49 ∷ 56 ∷ 52 ∷ 52 ∷ 54 ∷ 55 ∷ 52 ∷ 52 ∷ 48 ∷ 55 ∷ 51 ∷ 55 ∷ 48 ∷ 57 ∷ 53 ∷ 53 ∷ 49 ∷ 54 ∷ 49 ∷ 54 ∷ []
unfolding wide_of decimal_of width digits
past_a_word = refl

-- "340282366920938463463374607431768211455"
the_last : wide_of (2 ^ 64 - 1) (2 ^ 64 - 1) ≡ 51 ∷ 52 ∷ 48 ∷ 50 ∷ 56 ∷ 50 ∷ 51 ∷ 54 ∷ 54 ∷ 57 ∷ 50 ∷ 48 ∷ 57 ∷ 51 ∷ 56 ∷ 52 ∷ 54 ∷ 51 ∷ 52 ∷ 54 ∷ 51 ∷ 51 ∷ 55 ∷ 52 ∷ 54 ∷ 48 ∷ 55 ∷ 52 ∷ 51 ∷ 49 ∷ 55 ∷ 54 ∷ 56 ∷ 50 ∷ 49 ∷ 49 ∷ 52 ∷ 53 ∷ 53 ∷ []
unfolding wide_of decimal_of width digits
the_last = refl
