-- The entry of a ladder, price by price: its word is built from the last price on, its count is that of the set bits, its
-- place that of the lowest, and a bit says whether its price elects. Document 02, Three; 01's form of the entry.
use Prim.Native.Nat.{ℕ, zero, suc, ◌+◌, ◌*◌, ◌/◌, ◌%◌, ◌^◌, ◌≤◌, ◌<◌}
use mathlib.Core.Path.{◌≡◌, refl, sym, ap, ◌∙◌}
use mathlib.Core.Bool.{Bool, false, cond}
use mathlib.Core.List.{List, [], ◌∷◌}
use native.Mathlib.Nat.{zero-add, mul-add, mul-zero, mul-one, mul_assoc, one-mul, zero-div, pow-suc}
use native.Mathlib.Omega.{arith}
use borrow.Table.Steps.{cases}
use lib.Count.{ones, count_trailing_zeros, ones_step, trailing_of_zero}
use lib.ListN.{length, get_or}
use lib.Pow.{shr-shr}
use Rattle.pricelevel.specs.declared.Price.{Price}
use Rattle.stop_terms.specs.Terms.{elected_at}
use Rattle.stop_terms.specs.declared.StopTerms.{StopTerms}
use Rattle.book.specs.Ladder.{electing_from, bits_at, ladder_entry, bit_set}
use Rattle.book.specs.Sizes.{most_trial_prices, no_place}

abbrev pub as_bit : Bool → ℕ
as_bit b = cond b 1 0

module _ (t : StopTerms) where
  -- the word of the prices from one on: that of the later ones doubled, and 1 if it elects
  unfoldable pub word_from : List Price → ℕ
  word_from [] = 0
  word_from (p ∷ ps) = word_from ps * 2 + as_bit (elected_at t p)

  pub word_none : word_from [] ≡ 0
  unfolding word_from
  word_none = refl

  word_odd : (p : Price) (ps : List Price) → word_from (p ∷ ps) % 2 ≡ as_bit (elected_at t p)
  unfolding word_from
  word_odd p ps = cases (elected_at t p) (λ e. rw e (omega arith)) (λ e. rw e (omega arith))

  word_half : (p : Price) (ps : List Price) → word_from (p ∷ ps) / 2 ≡ word_from ps
  unfolding word_from
  word_half p ps = cases (elected_at t p) (λ e. rw e (omega arith)) (λ e. rw e (omega arith))

  pub word_lt : (ps : List Price) → word_from ps < 2 ^ length ps
  unfolding word_from
  word_lt [] = omega arith
  word_lt (p ∷ ps) =
      let h = word_lt ps in
      let two = pow-suc 2 (length ps) in
      cases (elected_at t p) (λ e. rw e (omega arith)) (λ e. rw e (omega arith))

  -- the sum of the bits from place j on
  bits_from : (j : ℕ) (ps : List Price) → bits_at (electing_from j t ps) ≡ 2 ^ j * word_from ps
  unfolding bits_at electing_from word_from
  bits_from j [] = sym (mul-zero (2 ^ j))
  bits_from j (p ∷ ps) =
      let ih = bits_from (suc j) ps in
      let twice : 2 ^ suc j * word_from ps ≡ 2 ^ j * (2 * word_from ps) =
      rw (pow-suc 2 j) (mul_assoc (2 ^ j) 2 (word_from ps)) in
      let swap : word_from ps * 2 ≡ 2 * word_from ps = omega arith in
      cases (elected_at t p)
      (λ e. rw (e, ih, twice, swap) (omega (arith, mul-add (2 ^ j) (2 * word_from ps) 1, mul-one (2 ^ j))))
      (λ e. rw (e, ih, twice, swap) (omega (arith, mul-add (2 ^ j) (2 * word_from ps) 0)))

  pub bits_word : (ps : List Price) → bits_at (electing_from 0 t ps) ≡ word_from ps
  bits_word ps = bits_from 0 ps ∙ one-mul (word_from ps)

  ones_none : ones (word_from []) ≡ 0
  unfolding ones
  ones_none = rw word_none

  count_ones : (j : ℕ) (ps : List Price) → length (electing_from j t ps) ≡ ones (word_from ps)
  unfolding electing_from
  count_ones j [] = sym ones_none
  count_ones j (p ∷ ps) =
      let step : ones (word_from (p ∷ ps)) ≡ as_bit (elected_at t p) + ones (word_from ps) =
      ones_step (word_from (p ∷ ps)) ∙ rw (word_odd p ps, word_half p ps) in
      let ih = count_ones (suc j) ps in
      cases (elected_at t p) (λ e. rw e (omega (arith, rw e at step))) (λ e. rw e (omega (arith, rw e at step)))

  -- the place of the first, or the end of k places from j on
  first_from : (j k : ℕ) (ps : List Price) → length ps ≤ k
      → get_or (electing_from j t ps) 0 (j + k) ≡ j + count_trailing_zeros k (word_from ps)
  unfolding electing_from count_trailing_zeros
  first_from j k [] h = rw (word_none, trailing_of_zero k)
  first_from j zero (p ∷ ps) h = absurd (omega arith)
  first_from j (suc k) (p ∷ ps) h =
      let ih = first_from (suc j) k ps (omega arith) in
      let end : j + suc k ≡ suc j + k = omega arith in
      cases (elected_at t p)
      (λ e. rw (e, rw e at (word_odd p ps)) (omega arith))
      (λ e. rw (e, rw e at (word_odd p ps), word_half p ps, end, ih) (omega arith))

  first-place : (ps : List Price) → length ps ≤ most_trial_prices
      → get_or (electing_from 0 t ps) 0 no_place ≡ count_trailing_zeros 64 (word_from ps)
  first-place ps h = first_from 0 64 ps h ∙ zero-add (count_trailing_zeros 64 (word_from ps))

  -- a bit says whether its price elects; beyond the prices none is set
  bit_first : (p : Price) (ps : List Price) → bit_set 0 (word_from (p ∷ ps)) ≡ elected_at t p
  unfolding bit_set
  bit_first p ps =
      let odd : word_from (p ∷ ps) / 2 ^ 0 % 2 ≡ as_bit (elected_at t p) = omega (arith, word_odd p ps) in
      rw odd (cases (elected_at t p) (λ e. rw e) (λ e. rw e))

  bit_later : (j : ℕ) (p : Price) (ps : List Price) → bit_set (suc j) (word_from (p ∷ ps)) ≡ bit_set j (word_from ps)
  unfolding bit_set
  bit_later j p ps =
      let one : suc j ≡ 1 + j = omega arith in
      let halved : word_from (p ∷ ps) / 2 ^ suc j ≡ word_from ps / 2 ^ j =
      ap (λ (k : ℕ). word_from (p ∷ ps) / 2 ^ k) one ∙ sym (shr-shr (word_from (p ∷ ps)) 1 j)
      ∙ ap (λ (x : ℕ). x / 2 ^ j) (word_half p ps) in
      rw halved

  bit-elects : (j : ℕ) (ps : List Price) (d : Price) → j < length ps → bit_set j (word_from ps) ≡ elected_at t (get_or ps j d)
  bit-elects j [] d h = absurd (omega arith)
  bit-elects zero (p ∷ ps) d h = bit_first p ps
  bit-elects (suc j) (p ∷ ps) d h = bit_later j p ps ∙ bit-elects j ps d (omega arith)

  bit_none : (j : ℕ) → bit_set j 0 ≡ false
  unfolding bit_set
  bit_none j = rw (zero-div (2 ^ j))

  bit-beyond : (j : ℕ) (ps : List Price) → length ps ≤ j → bit_set j (word_from ps) ≡ false
  bit-beyond j [] h = rw word_none (bit_none j)
  bit-beyond zero (p ∷ ps) h = absurd (omega arith)
  bit-beyond (suc j) (p ∷ ps) h = bit_later j p ps ∙ bit-beyond j ps (omega arith)

------------------------------------------------------------------------
-- Of an entry

module _ (t : StopTerms) (ps : List Price) where
  -- a bit is set exactly if its price elects; those beyond the prices are not
  pub entry_bit : (j : ℕ) (d : Price) → j < length ps → bit_set j (ladder_entry ps t).word ≡ elected_at t (get_or ps j d)
  unfolding ladder_entry
  entry_bit j d h = rw (bits_word t ps) (bit-elects t j ps d h)

  pub entry-beyond : (j : ℕ) → length ps ≤ j → bit_set j (ladder_entry ps t).word ≡ false
  unfolding ladder_entry
  entry-beyond j h = rw (bits_word t ps) (bit-beyond t j ps h)

  -- the count is that of the ones of the word, the place that of the zeros below the lowest of them
  pub entry_counts : length ps ≤ most_trial_prices
      → ((ladder_entry ps t).count ≡ ones (ladder_entry ps t).word)
      × ((ladder_entry ps t).first ≡ count_trailing_zeros 64 (ladder_entry ps t).word)
  unfolding ladder_entry
  entry_counts h = rw (bits_word t ps) (count_ones t 0 ps, first-place t ps h)
