-- How many of an input's words are the store's and how many are prices, as the code finds it.
use Prim.Native.Nat.{ℕ, suc, ◌+◌, ◌-◌, ◌*◌, ◌≤◌, ◌<◌, min}
use mathlib.Core.Bool.{cond, ◌&&◌}
use mathlib.Core.List.{List, []}
use mathlib.Core.Path.{◌≡◌, sym, ap, ◌∙◌}
use native.Mathlib.Omega.{arith}
use borrow.Author.Tests.{le-leb, lt-leb, eq-eqb, ne_eqb}
use lib.Dec.{eqb, leb}
use lib.ListN.{length}
use Rattle.book.specs.Sizes.{most_records, store_length, most_prices}
use Rattle.forecast_input.specs.Input.{word_at, words_at, word_count, words_of, store_in, prices_in}
use Rattle.forecast_input.proofs.Words.{words_at_length, count_inside}
use Rattle.forecast_input.proofs.Split.{store_length_lem, store_few, store_words, prices_none, prices-behind, price_words_lem, prices_few}

-- a word that is counted can be read
pub word_inside : (bytes : List ℕ) (count i : ℕ) → count ≡ word_count bytes → i < count → 8 * i + 8 ≤ length bytes
word_inside bytes count i e h = omega (arith, e, h, count_inside bytes)

module _ (bytes : List ℕ) (count n r : ℕ) (e : count ≡ word_count bytes) (some : count ≡ 0 → ⊥)
    (first : n ≡ word_at bytes 0) where
  store_of : r ≡ min (store_length (min n most_records)) count → r ≡ length (store_in (words_of bytes))
  store_of f = f ∙ rw (first, e) (sym (store_length_lem bytes (omega (arith, e, some))))

  pub store_over : most_records < n → r ≡ min (store_length most_records) count → r ≡ length (store_in (words_of bytes))
  store_over h f =
      let m : min n most_records ≡ most_records = omega (arith, h) in
      store_of (f ∙ ap (λ (k : ℕ). min (store_length k) count) (sym m))

  pub store-named : n ≤ most_records → r ≡ min (store_length n) count → r ≡ length (store_in (words_of bytes))
  store-named h f =
      let m : min n most_records ≡ n = omega (arith, h) in
      store_of (f ∙ ap (λ (k : ℕ). min (store_length k) count) (sym m))

module _ (bytes : List ℕ) (count at c : ℕ) (e : count ≡ word_count bytes)
    (f : at ≡ length (store_in (words_of bytes))) where
  pub no_count : count ≤ at → 0 ≡ length (prices_in (words_of bytes))
  no_count h = sym (ap length (prices_none bytes (omega (arith, e, f, h))))

  module _ (h : at < count) (g : c ≡ word_at bytes at) where
    behind : prices_in (words_of bytes) ≡ cond (leb c most_prices && eqb (count - at - 1) c)
        (words_at bytes (at + 1) (count - at - 1)) []
    behind =
        let w : word_count bytes ≡ at + suc (count - at - 1) = omega (arith, e, h) in
        rw g (prices-behind bytes at (count - at - 1) f w)

    pub count_over : most_prices < c → 0 ≡ length (prices_in (words_of bytes))
    count_over over = rw behind (rw (lt-leb c most_prices over))

    pub count-other : c ≤ most_prices → (count - at - 1 ≡ c → ⊥) → 0 ≡ length (prices_in (words_of bytes))
    count-other few other = rw behind (rw (le-leb c most_prices few, ne_eqb (count - at - 1) c other))

    pub count_right : c ≤ most_prices → count - at - 1 ≡ c → c ≡ length (prices_in (words_of bytes))
    count_right few right =
        rw behind (rw (
          le-leb c most_prices few,
          eq-eqb (count - at - 1) c right,
          words_at_length bytes (at + 1)
              (count - at - 1),
        ) (sym right))

------------------------------------------------------------------------
-- The words are there, and what is read is the store and the prices

pub store_inside : (bytes : List ℕ) (k : ℕ) → k ≡ length (store_in (words_of bytes)) → 8 * (0 + k) ≤ length bytes
store_inside bytes k e = omega (arith, e, store_few bytes, count_inside bytes)

pub prices_inside : (bytes : List ℕ) (count k : ℕ) → count ≡ word_count bytes → k ≡ length (prices_in (words_of bytes))
    → 8 * (count - k + k) ≤ length bytes
prices_inside bytes count k e f = omega (arith, e, f, prices_few bytes, count_inside bytes)

pub store_read : (bytes w : List ℕ) (k : ℕ) → k ≡ length (store_in (words_of bytes)) → w ≡ words_at bytes 0 k
    → w ≡ store_in (words_of bytes)
store_read bytes w k e f = f ∙ ap (words_at bytes 0) e ∙ store_words bytes

pub prices_read : (bytes w : List ℕ) (count k : ℕ) → count ≡ word_count bytes → k ≡ length (prices_in (words_of bytes))
    → w ≡ words_at bytes (count - k) k → w ≡ prices_in (words_of bytes)
prices_read bytes w count k e f g = g ∙ rw (e, f) (price_words_lem bytes)
