-- A number that is written in decimal is read back.
use Prim.Native.Nat.{ℕ, zero, suc, ◌+◌, ◌-◌, ◌*◌, ◌/◌, ◌%◌, ◌^◌, ◌<◌}
use mathlib.Core.Path.{◌≡◌, refl, ap, ◌∙◌}
use mathlib.Core.List.{List, [], ◌∷◌, ◌++◌}
use native.Mathlib.Nat.{pow-suc, pow-zero}
use native.Mathlib.Omega.{arith}
use borrow.Author.Tests.{lt-ltb, le-leb}
use Rattle.io.specs.Digits.{last_digits, hex_digit_ascii}
use Rattle.text_numbers.specs.Numbers.{with_digit, digit_behind, number_from, number_of}
use Rattle.std.specs.Prelude.{Result, Ok}
use Rattle.text_numbers.specs.declared.Unread.{Unread}

number_snoc : (n : Result ℕ Unread) (l : List ℕ) (b : ℕ) → number_from n (l ++ (b ∷ [])) ≡ digit_behind (number_from n l) b
unfolding number_from
number_snoc n [] b = refl
number_snoc n (x ∷ l) b = number_snoc (digit_behind n x) l b

digit_on : (v d : ℕ) → d < 10 → v * 10 + d < 18446744073709551616 → with_digit v (hex_digit_ascii d) ≡ Ok (v * 10 + d)
unfolding with_digit
digit_on v d h fits =
    let e : 48 + d - 48 ≡ d = omega arith in
    simp (lt-ltb d 10 h, le-leb 48 (48 + d) (omega arith), le-leb (48 + d) 57 (omega arith), e, le-leb (v * 10 + d) 18446744073709551615 (omega arith))

-- digits enough for a number below 2^64 are that number
pub digits_read : (k n : ℕ) → n < 10 ^ k → n < 18446744073709551616 → number_of (last_digits 10 k n) ≡ Ok n
unfolding number_from
digits_read zero n h fits = ap Ok (omega (arith, pow-zero 10))
digits_read (suc k) n h fits =
    let part : number_of (last_digits 10 k (n / 10)) ≡ Ok (n / 10) = digits_read k (n / 10) (omega (arith, pow-suc 10 k)) (omega arith) in
    let whole : n / 10 * 10 + n % 10 ≡ n = omega arith in
    number_snoc (Ok 0) (last_digits 10 k (n / 10)) (hex_digit_ascii (n % 10))
    ∙ ap (λ (s : Result ℕ Unread). digit_behind s (hex_digit_ascii (n % 10))) part
    ∙ digit_on (n / 10) (n % 10) (omega arith) (omega arith)
    ∙ ap Ok whole
