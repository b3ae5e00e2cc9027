-- How many octets a number is written in, and what stands at each index of them.
use Prim.Native.Nat.{ℕ, zero, suc, ◌-◌, ◌*◌, ◌/◌, ◌%◌, ◌^◌, ◌<◌}
use mathlib.Core.Path.{◌≡◌, refl, ap, ◌∙◌}
use native.Mathlib.Omega.{arith}
use lib.ListN.{length, get_or}
use Rattle.fips180.specs.Fips.{big_endian}

pub big_endian_length : (k x : ℕ) → length (big_endian k x) ≡ k
unfolding big_endian
big_endian_length zero x = refl
big_endian_length (suc k) x = ap suc (big_endian_length k x)

pub big_endian_at : (k x j : ℕ) → j < k → get_or (big_endian k x) j 0 ≡ x / 2 ^ (8 * (k - suc j)) % 256
unfolding big_endian
big_endian_at zero x j h = absurd (omega arith)
big_endian_at (suc k) x zero h = ap (λ (n : ℕ). x / 2 ^ (8 * n) % 256) (omega arith)
big_endian_at (suc k) x (suc j) h =
    big_endian_at k x j (omega arith) ∙ ap (λ (n : ℕ). x / 2 ^ (8 * n) % 256) (omega arith)
