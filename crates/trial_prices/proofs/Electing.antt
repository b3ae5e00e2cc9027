-- The word of the prices from place j on, as it is built from the last price.
use Prim.Native.Nat.{ℕ, suc, ◌+◌, ◌-◌, ◌*◌, ◌^◌, ◌≤◌, ◌<◌}
use mathlib.Core.Path.{◌≡◌, ◌∙◌}
use mathlib.Core.List.{List, ◌∷◌, map}
use native.Mathlib.Omega.{arith}
use lib.ListN.{length, get_or, drop, length-map, length-drop, drop_of_length-le}
use lib.Pow.{pow_mono}
use lib.Seq.{drop-cons}
use Rattle.book.proofs.LadderEntries.{as_bit, word_from, word_none, word_lt, bits_word}
use Rattle.book.specs.Ladder.{electing_from, bits_at}
use Rattle.book.specs.Sizes.{most_trial_prices}
use Rattle.pricelevel.specs.Price.{to_price}
use Rattle.stop_terms.specs.Terms.{elected_at}
use Rattle.stop_terms.specs.declared.StopTerms.{StopTerms}

pub record Built (t : StopTerms) (prices : List ℕ) (word j : ℕ) : Type 0 where
  pub within : j ≤ length prices
  pub done : word ≡ word_from t (map to_price (drop j prices))

module _ (t : StopTerms) (prices : List ℕ) where
  pub built_start : Built t prices 0 (length prices)
  built_start = record { within = omega arith; done = rw (drop_of_length-le prices {i = length prices} (omega arith), word_none t) }

  module _ {word j : ℕ} (s : Built t prices word j) where
    -- before the first price there is a bit left
    pub built_room : length prices ≤ most_trial_prices → 0 < j → word * 2 + 1 < 2 ^ 64
    built_room few h =
        let most = word_lt t (map to_price (drop j prices)) in
        let size = length-map (drop j prices) to_price ∙ length-drop j prices in
        let top : 2 ^ length (map to_price (drop j prices)) ≤ 2 ^ 63 = pow_mono {j = 63} (omega (arith, size)) in
        omega (arith, s.done, most, top)

    pub built_next : 0 < j → (next : ℕ) → next ≡ word * 2 + as_bit (elected_at t (to_price (get_or prices (j - 1) 0)))
        → Built t prices next (j - 1)
    unfolding word_from
    built_next h next e =
        let later : suc (j - 1) ≡ j = omega arith in
        let rest : drop (j - 1) prices ≡ get_or prices (j - 1) 0 ∷ drop j prices =
        drop-cons prices (j - 1) 0 (omega (arith, s.within)) ∙ rw later in
        record { within = omega (arith, s.within); done = rw (rest, ← s.done) e }

    pub built_end : j ≡ 0 → word ≡ bits_at (electing_from 0 t (map to_price prices))
    built_end e = rw (bits_word t (map to_price prices)) (rw e at s.done)
