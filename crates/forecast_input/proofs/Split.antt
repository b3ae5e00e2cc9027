-- Where the store and the prices stand in an input's words.
use Prim.Native.Nat.{ℕ, zero, suc, ◌+◌, ◌-◌, ◌≤◌, ◌<◌, min}
use mathlib.Core.Bool.{cond, ◌&&◌}
use mathlib.Core.List.{List, [], ◌∷◌}
use mathlib.Core.Path.{◌≡◌, refl, sym, ap, ◌∙◌}
use native.Mathlib.Nat.{not-suc-le-zero}
use native.Mathlib.Omega.{arith}
use borrow.Author.Tests.{leb-true, leb-false, eqb-true}
use borrow.Table.Steps.{cases}
use lib.Dec.{eqb, leb}
use lib.ListN.{length, get_or, take, drop, length-take, length-drop, drop_of_length-le}
use Rattle.book.specs.Sizes.{most_records, store_length, most_prices}
use Rattle.forecast_input.specs.Input.{word_at, words_at, word_count, words_of, named_length, store_in, counted, prices_in}
use Rattle.forecast_input.proofs.Words.{words_at_length, words_of_length, words_at-take, words_at_drop}

------------------------------------------------------------------------
-- The store

first_word : (bytes : List ℕ) (k : ℕ) → 0 < k → get_or (words_at bytes 0 k) 0 0 ≡ word_at bytes 0
unfolding words_at
first_word bytes zero h = absurd (not-suc-le-zero h)
first_word bytes (suc k) h = refl

-- the store is as many words as the first names, or all
pub store_length_lem : (bytes : List ℕ) → 0 < word_count bytes
    → length (store_in (words_of bytes)) ≡ min (store_length (min (word_at bytes 0) most_records)) (word_count bytes)
unfolding store_in words_of
store_length_lem bytes h =
    length-take (named_length (words_of bytes)) (words_of bytes)
    ∙ rw (words_of_length bytes, first_word bytes (word_count bytes) h)

pub store_few : (bytes : List ℕ) → length (store_in (words_of bytes)) ≤ word_count bytes
unfolding store_in
store_few bytes = rw (length-take (named_length (words_of bytes)) (words_of bytes), words_of_length bytes) (omega arith)

-- nothing of no words, and never more than the longest store
pub store_none : (bytes : List ℕ) → word_count bytes ≡ 0 → length (store_in (words_of bytes)) ≡ 0
store_none bytes e = omega (arith, store_few bytes, e)

pub store_most : (w : List ℕ) → length (store_in w) ≤ store_length most_records
unfolding store_in
store_most w = rw (length-take (named_length w) w) (omega arith)

take_own : {A : Type 0} (m : ℕ) (l : List A) → take (length (take m l)) l ≡ take m l
take_own zero l = refl
take_own (suc m) [] = refl
take_own {A} (suc m) (x ∷ l) = ap (λ (r : List A). x ∷ r) (take_own m l)

-- it is the first of the words
pub store_words : (bytes : List ℕ) → words_at bytes 0 (length (store_in (words_of bytes))) ≡ store_in (words_of bytes)
unfolding store_in words_of
store_words bytes = sym (words_at-take bytes 0 _ (word_count bytes) (store_few bytes))
    ∙ take_own (named_length (words_of bytes)) (words_of bytes)

------------------------------------------------------------------------
-- The prices

counted_most : (w : List ℕ) → length (counted w) ≤ most_prices
unfolding counted
counted_most [] = omega arith
counted_most (count ∷ prices) =
    cases (leb count most_prices)
    (λ e. cases (eqb (length prices) count)
    (λ f. rw (e, f) (omega (arith, leb-true count most_prices e, eqb-true (length prices) count f)))
    (λ f. rw (e, f) (omega arith)))
    (λ e. rw e (omega arith))

counted_few : (w : List ℕ) → length (counted w) ≤ length w
unfolding counted
counted_few [] = omega arith
counted_few (count ∷ prices) =
    cases (leb count most_prices && eqb (length prices) count) (λ e. rw e (omega arith)) (λ e. rw e (omega arith))

-- no count
pub prices_none : (bytes : List ℕ) → word_count bytes ≤ length (store_in (words_of bytes)) → prices_in (words_of bytes) ≡ []
unfolding prices_in counted
prices_none bytes h =
    rw (drop_of_length-le (words_of bytes) {i = length (store_in (words_of bytes))} (rw (words_of_length bytes) h))

-- the words behind the store
behind_store : (bytes : List ℕ) (k rest : ℕ) → word_count bytes ≡ k + suc rest
    → drop k (words_of bytes) ≡ word_at bytes k ∷ words_at bytes (k + 1) rest
unfolding words_of words_at
behind_store bytes k rest f =
    let left : word_count bytes - k ≡ suc rest = omega arith in
    let next : suc k ≡ k + 1 = omega arith in
    let here : 0 + k ≡ k = omega arith in
    words_at_drop bytes 0 k (word_count bytes) (omega arith)
    ∙ rw (left, here) (ap (λ (p : ℕ). word_at bytes k ∷ words_at bytes p rest) next)

-- the prices, where the count is right
pub prices-behind : (bytes : List ℕ) (k rest : ℕ) → k ≡ length (store_in (words_of bytes))
    → word_count bytes ≡ k + suc rest
    → prices_in (words_of bytes) ≡ cond (leb (word_at bytes k) most_prices && eqb rest (word_at bytes k))
    (words_at bytes (k + 1) rest) []
unfolding prices_in counted
prices-behind bytes k rest e f =
    ap (λ (j : ℕ). counted (drop j (words_of bytes))) (sym e)
    ∙ rw (behind_store bytes k rest f, words_at_length bytes (k + 1) rest)

last_words : (bytes p : List ℕ) (i k n : ℕ) → p ≡ words_at bytes i k → n ≡ i + k
    → words_at bytes (n - length p) (length p) ≡ p
last_words bytes p i k n e f =
    let size : length p ≡ k = ap length e ∙ words_at_length bytes i k in
    let at : n - k ≡ i = omega arith in
    rw size (rw at (sym e))

-- they are the last of the words
pub price_words_lem : (bytes : List ℕ)
    → words_at bytes (word_count bytes - length (prices_in (words_of bytes)))
    (length (prices_in (words_of bytes))) ≡ prices_in (words_of bytes)
unfolding words_at
price_words_lem bytes =
    cases (leb (word_count bytes) k)
    (λ e. none (prices_none bytes (leb-true _ _ e)))
    (λ e.
    let h : k < word_count bytes = leb-false _ _ e in
    let rest : ℕ = word_count bytes - k - 1 in
    let f : word_count bytes ≡ k + suc rest = omega arith in
    let p = prices-behind bytes k rest refl f in
    cases (leb (word_at bytes k) most_prices && eqb rest (word_at bytes k))
    (λ t. last_words bytes _ (k + 1) rest (word_count bytes) (rw t at p) (omega arith))
    (λ t. none (rw t at p)))
  where
    k : ℕ
    k = length (store_in (words_of bytes))

    none : prices_in (words_of bytes) ≡ []
        → words_at bytes (word_count bytes - length (prices_in (words_of bytes)))
        (length (prices_in (words_of bytes))) ≡ prices_in (words_of bytes)
    none e = last_words bytes (prices_in (words_of bytes)) (word_count bytes) 0 (word_count bytes) e (omega arith)

pub prices_most : (bytes : List ℕ) → length (prices_in (words_of bytes)) ≤ most_prices
unfolding prices_in
prices_most bytes = counted_most (drop (length (store_in (words_of bytes))) (words_of bytes))

-- and they are some of the words
pub prices_few : (bytes : List ℕ) → length (prices_in (words_of bytes)) ≤ word_count bytes
unfolding prices_in
prices_few bytes =
    let k = length (store_in (words_of bytes)) in
    let h : length (drop k (words_of bytes)) ≤ word_count bytes =
    rw (length-drop k (words_of bytes), words_of_length bytes) (omega arith) in
    omega (arith, h, counted_few (drop k (words_of bytes)))
