-- What a kind's and a side's word stand for beyond the named numbers.
use Prim.Native.Nat.{ℕ, zero, suc}
use mathlib.Core.Path.{◌≡◌, refl}
use Rattle.pricelevel.specs.declared.IdKind.TheVariants.{Sequential}
use Rattle.pricelevel.specs.declared.Side.TheVariants.{Sell}
use Rattle.book.specs.Words.{kind_of, side_from}

pub kind_of-beyond : (k : ℕ) → (k ≡ 0 → ⊥) → (k ≡ 1 → ⊥) → kind_of k ≡ Sequential
unfolding kind_of
kind_of-beyond zero z o = absurd (z refl)
kind_of-beyond (suc zero) z o = absurd (o refl)
kind_of-beyond (suc (suc k)) z o = refl

pub side_from-beyond : (k : ℕ) → (k ≡ 0 → ⊥) → side_from k ≡ Sell
unfolding side_from
side_from-beyond zero z = absurd (z refl)
side_from-beyond (suc k) z = refl
