-- The equation of numbers that a limit's contract is decides its two words.
use Prim.Native.Nat.{ℕ, ◌^◌, ◌<◌}
use mathlib.Core.Path.{◌≡◌, ap}
use Rattle.pricelevel.proofs.Numbers.{number-two_words, two_words-number}
use Rattle.pricelevel.specs.TwoWords.{number_of}
use Rattle.pricelevel.specs.declared.Price.{Price}
use Rattle.pricelevel.specs.declared.Side.{Side}
use Rattle.pricelevel.specs.declared.TwoWords.{TwoWords}
use Rattle.stop_protection.specs.Collar.{limit_for, limit_price}
use Rattle.stop_protection.specs.declared.LimitPrice.{LimitPrice}

module _ (collar : ℕ) (side : Side) (stop : Price) where
  pub limit-number : number_of (limit_price collar side stop).0 ≡ limit_for collar side stop.0
  unfolding limit_price
  limit-number = number-two_words (limit_for collar side stop.0)

  pub limit_decided : (l : LimitPrice) → l.0.low < 2 ^ 64 → number_of l.0 ≡ limit_for collar side stop.0
      → l ≡ limit_price collar side stop
  unfolding limit_price
  limit_decided l low e = ap (λ (t : TwoWords). record { 0 = t }) (two_words-number l.0 _ low e)
