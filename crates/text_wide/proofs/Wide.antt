-- Laws of numbers of two words: one word, and the quotient by 10^9 with nine digits behind it.
use Prim.Native.Nat.{ℕ, zero, suc, ◌+◌, ◌*◌, ◌^◌, ◌≤◌, ◌<◌}
use mathlib.Core.Path.{◌≡◌, refl, sym, ap, subst, ◌∙◌}
use mathlib.Core.List.{◌++◌}
use native.Mathlib.Nat.{add-lt-add_of_lt_of_le, le_of_lt, lt_trans}
use native.Mathlib.Omega.{arith}
use lib.Dec.{lit<}
use lib.Pow.{shl_lt}
use lib.ListN.{length}
use Rattle.text_buffer.specs.Digits.{digits, decimal_letter, decimal_of}
use Rattle.text_buffer.proofs.Digits.{decimal_parts, decimal_length}
use Rattle.text_wide.specs.Wide.{wide_of}

pub wide_length : (high low : ℕ) → length (wide_of high low) ≤ 41
unfolding wide_of
wide_length high low = decimal_length (high * 2 ^ 64 + low)

-- a number of one word
pub wide_word : (high low : ℕ) → high ≡ 0 → decimal_of low ≡ wide_of high low
unfolding wide_of
wide_word high low e =
    let whole : high * 18446744073709551616 + low ≡ low = omega arith in
    sym (ap decimal_of whole)

two_words_below : (high low : ℕ) → high < 2 ^ 64 → low < 2 ^ 64 → high * 2 ^ 64 + low < 10 ^ 41
two_words_below high low h l = lt_trans (add-lt-add_of_lt_of_le (shl_lt 64 64 h) (le_of_lt l)) (lit< tt)

-- a number of two words: its quotient by 10^9, and nine digits behind it
pub wide_parts : (high low h l r : ℕ) → high < 2 ^ 64 → low < 2 ^ 64 → (high ≡ 0 → ⊥) → high * 18446744073709551616 + low ≡ (h * 18446744073709551616 + l) * 1000000000 + r → r < 1000000000
    → wide_of high low ≡ wide_of h l ++ digits decimal_letter 10 9 r
unfolding wide_of
wide_parts high low h l r fh fl ne e small =
    let q = h * 18446744073709551616 + l in
    ap decimal_of e
    ∙ decimal_parts 9 q r small (more q high low r ne e) (subst (λ (x : ℕ). x < 10 ^ 41) e (two_words_below high low fh fl))
  where
    more : (q high low r : ℕ) → (high ≡ 0 → ⊥) → high * 18446744073709551616 + low ≡ q * 1000000000 + r → 1000000000 ≤ q * 1000000000 + r
    more q zero low r ne e = absurd (ne refl)
    more q (suc high) low r ne e = omega (arith, e)

pub high_falls : (high h : ℕ) → (high ≡ 0 → ⊥) → h * 1000000000 ≤ high → h < high
high_falls zero h ne e = absurd (ne refl)
high_falls (suc high) h ne e = omega arith
