-- Numbers as text: digits in a base, and decimal.
use Rattle.std.specs.Prelude.{ℕ, zero, suc, ◌+◌, ◌/◌, ◌%◌, cond, List, [], ◌∷◌, ◌++◌, ltb}

-- the last k digits of a number in a base, the most significant first, each as `letter` writes it
unfoldable pub digits : (ℕ → ℕ) → ℕ → ℕ → ℕ → List ℕ
digits letter base zero n = []
digits letter base (suc k) n = digits letter base k (n / base) ++ (letter (n % base) ∷ [])

-- a decimal digit: "0" and the nine behind it
abbrev pub decimal_letter : ℕ → ℕ
decimal_letter d = 48 + d

-- how many decimal digits a number takes, up to k + 1
unfoldable pub width : ℕ → ℕ → ℕ
width zero n = 1
width (suc k) n = cond (ltb n 10) 1 (suc (width k (n / 10)))

-- a number in decimal; 2^128, the largest that is printed, takes 39 digits
unfoldable pub decimal_of : ℕ → List ℕ
decimal_of n = digits decimal_letter 10 (width 40 n) n
