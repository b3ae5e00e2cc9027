-- The beginning of a long input names the same store and prices: behind the longest store stand more words than a count
-- and the most prices.
use Prim.Native.Nat.{ℕ, zero, suc, ◌+◌, ◌*◌, ◌/◌, ◌%◌, ◌≤◌, ◌<◌, min}
use mathlib.Core.Bool.{false}
use mathlib.Core.List.{List, [], ◌∷◌}
use mathlib.Core.Path.{◌≡◌, refl, sym, ap, ◌∙◌}
use native.Mathlib.Omega.{arith}
use borrow.Author.Tests.{leb-true, ne_eqb, eqb-true, eqb-false}
use borrow.Table.Steps.{cases}
use lib.Dec.{eqb, leb}
use lib.ListN.{length, take, drop, length-drop}
use lib.Seq.{get_or-take, take-take, take_all, length-take-le}
use Rattle.book.specs.Sizes.{most_records, store_length, most_prices}
use Rattle.forecast_input.specs.Input.{four_at, word_at, words_at, word_count, words_of, named_length, store_in, counted, prices_in, SameInput, longest}
use Rattle.forecast_input.proofs.Words.{words_at-take, words_of_length, count_whole, count_none}
use Rattle.forecast_input.proofs.Split.{store_most}

------------------------------------------------------------------------
-- Of words

counted_long : (w : List ℕ) → most_prices + 1 < length w → counted w ≡ []
unfolding counted
counted_long [] h = refl
counted_long (count ∷ prices) h =
    cases (leb count most_prices)
    (λ e.
    let few : count ≤ most_prices = leb-true count most_prices e in
    let other : eqb (length prices) count ≡ false = ne_eqb (length prices) count (λ f. omega (arith, few, h, f)) in
    rw (e, other))
    (λ e. rw e)

prices_long : (w : List ℕ) → longest < length w → prices_in w ≡ []
unfolding prices_in
prices_long w h =
    counted_long (drop (length (store_in w)) w)
    (rw (length-drop (length (store_in w)) w) (omega (arith, h, store_most w)))

module _ (w : List ℕ) (m : ℕ) (long : longest < m) (fits : m ≤ length w) where
  pub store_beginning : store_in (take m w) ≡ store_in w
  unfolding store_in
  store_beginning =
      ap (λ (n : ℕ). take (store_length (min n most_records)) (take m w)) (get_or-take m w 0 0 (omega (arith, long)))
      ∙ take-take (named_length w) m w (omega (arith, long))

  pub prices_beginning : prices_in (take m w) ≡ prices_in w
  unfolding prices_in
  prices_beginning = prices_long (take m w) (rw (length-take-le m w fits) long)
      ∙ sym (prices_long w (omega (arith, long, fits)))

------------------------------------------------------------------------
-- Of bytes

module _ (bytes : List ℕ) (k : ℕ) where
  four-take : (p : ℕ) → p + 4 ≤ k → four_at (take k bytes) p ≡ four_at bytes p
  unfolding four_at
  four-take p h =
      rw (
        get_or-take k bytes p 0 (omega (arith, h)),
        get_or-take k bytes (p + 1) 0 (omega (arith, h)),
        get_or-take k bytes (p + 2) 0 (omega (arith, h)),
        get_or-take k bytes (p + 3) 0 (omega (arith, h)),
      )

  word-take : (i : ℕ) → 8 * i + 8 ≤ k → word_at (take k bytes) i ≡ word_at bytes i
  unfolding word_at
  word-take i h = rw (four-take (8 * i) (omega (arith, h)), four-take (8 * i + 4) (omega (arith, h)))

  words_take : (i m : ℕ) → 8 * (i + m) ≤ k → words_at (take k bytes) i m ≡ words_at bytes i m
  unfolding words_at
  words_take i zero h = refl
  words_take i (suc m) h =
      rw (word-take i (omega (arith, h)), words_take (suc i) m (omega (arith, h)))

  module _ (fits : k ≤ length bytes) (alike : k % 8 ≡ length bytes % 8) where
    size : length (take k bytes) ≡ k
    size = length-take-le k bytes fits

    whole : length bytes % 8 ≡ 0 → words_of (take k bytes) ≡ take (k / 8) (words_of bytes)
    unfolding words_of
    whole e =
        let count : word_count (take k bytes) ≡ k / 8 =
        count_whole (take k bytes) (rw size (alike ∙ e)) ∙ ap (λ (n : ℕ). n / 8) size in
        let all : word_count bytes ≡ length bytes / 8 = count_whole bytes e in
        ap (words_at (take k bytes) 0) count
        ∙ words_take 0 (k / 8) (omega arith)
        ∙ sym (words_at-take bytes 0 (k / 8) (word_count bytes) (rw all (omega (arith, fits))))

    broken : (length bytes % 8 ≡ 0 → ⊥) → words_of (take k bytes) ≡ words_of bytes
    unfolding words_of words_at
    broken e =
        let none : word_count (take k bytes) ≡ 0 = count_none (take k bytes) (λ f. e (sym alike ∙ (rw size at f))) in
        rw (none, count_none bytes e)

    -- an input's beginning, longer than the longest that is accepted and as far from whole words as the input, names
    -- what the input names
    pub same_beginning : 8 * longest + 8 ≤ k → SameInput (take k bytes) bytes
    same_beginning long =
        cases (eqb (length bytes % 8) 0)
        (λ e.
        let f : length bytes % 8 ≡ 0 = eqb-true _ _ e in
        let more : longest < k / 8 = omega (arith, long) in
        let there : k / 8 ≤ length (words_of bytes) =
        rw (words_of_length bytes, count_whole bytes f) (omega (arith, fits)) in (
          ap store_in (whole f) ∙ store_beginning (words_of bytes) (k / 8) more there,
          ap prices_in (whole f) ∙ prices_beginning (words_of bytes) (k / 8) more there,
        ))
        (λ e. let g = broken (eqb-false _ _ e) in (ap store_in g, ap prices_in g))

-- and so does all of it
pub same_whole : (bytes : List ℕ) (k : ℕ) → length bytes ≤ k → SameInput (take k bytes) bytes
same_whole bytes k h = let e =
    take_all k bytes h in (ap (λ (b : List ℕ). store_in (words_of b)) e, ap (λ (b : List ℕ). prices_in (words_of b)) e)
