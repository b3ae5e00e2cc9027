-- A run of stores that copies words from a place on, word by word.
use Prim.Native.Nat.{ℕ, ◌+◌, ◌≤◌, ◌<◌}
use mathlib.Core.Path.{◌≡◌, refl, ◌∙◌}
use mathlib.Core.List.{List}
use native.Mathlib.Nat.{add-zero, add-suc}
use native.Mathlib.Numerals.{add-one}
use native.Mathlib.Omega.{arith}
use lib.ListN.{length, get_or, set, drop, length-set}
use lib.Seq.{sets, drop-cons, drop-length}

-- k words are stored, and the stores that are left give what all of them give
pub record Copied (w words : List ℕ) (at k : ℕ) (s : List ℕ) : Type 0 where
  pub most : k ≤ length words
  pub size : length s ≡ length w
  pub rest : sets s (at + k) (drop k words) ≡ sets w at words

pub copied_none : (w words : List ℕ) (at : ℕ) → Copied w words at 0 w
copied_none w words at = record { most = omega arith; size = refl; rest = rw add-zero }

pub copied_more : (w words : List ℕ) (at k : ℕ) (s : List ℕ) → Copied w words at k s → k < length words
    → Copied w words at (k + 1) (set s (at + k) (get_or words k 0))
copied_more w words at k s c h = record {
  most = omega arith;
  size = length-set s (at + k) (get_or words k 0) ∙ c.size;
  rest = rw (add-one, add-suc) (rw (drop-cons words k 0 h) at c.rest);
}

pub copied_all : (w words : List ℕ) (at k : ℕ) (s : List ℕ) → Copied w words at k s → length words ≤ k
    → s ≡ sets w at words
copied_all w words at k s c h =
    let e : k ≡ length words = omega (arith, c.most) in
    rw (e, drop-length) at c.rest
