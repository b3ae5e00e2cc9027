-- A holder's words, and when two holders are equal: document 02, One.
use Rattle.std.specs.Prelude.{ℕ, ◌<◌, ◌^◌, Bool, ◌&&◌, List, [], ◌∷◌, eqb}
use Rattle.pricelevel.specs.declared.Holder.{Holder}

-- 32 bytes as four big-endian words
abbrev pub holder_words : Holder → List ℕ
holder_words h = h.0 ∷ h.1 ∷ h.2 ∷ h.3 ∷ []

-- the holder of four words
abbrev pub holder_of : ℕ → ℕ → ℕ → ℕ → Holder
holder_of a b c d = record { 0 = a; 1 = b; 2 = c; 3 = d }

-- holders are equal when all four words are
unfoldable pub same_holder : Holder → Holder → Bool
same_holder a b = eqb a.0 b.0 && (eqb a.1 b.1 && (eqb a.2 b.2 && eqb a.3 b.3))

-- its words are below 2^64
pub record HolderFits (h : Holder) : Type 0 where
  pub first : h.0 < 2 ^ 64
  pub second : h.1 < 2 ^ 64
  pub third : h.2 < 2 ^ 64
  pub fourth : h.3 < 2 ^ 64
