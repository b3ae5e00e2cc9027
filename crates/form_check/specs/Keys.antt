-- Stops told apart by their keys, and the buckets that spare most comparisons: document 01, The store (identities
-- differ; sequences differ).
use Rattle.std.specs.Prelude.{ℕ, zero, suc, ◌+◌, ◌-◌, ◌%◌, ◌^◌, ◌≤◌, ◌≡◌, Bool, true, cond, not, ◌&&◌, ◌||◌, List, eqb, get_or}
use Rattle.pricelevel.specs.Identity.{same_id}
use Rattle.book.specs.Lists.{every, rising}
use Rattle.book.specs.Words.{record_word, entry_at}
use Rattle.form_check.specs.Check.{is_zero}
use Rattle.form_check.specs.declared.Key.{Key}
use Rattle.form_check.specs.declared.Key.TheVariants.{Sequence, Identity}

------------------------------------------------------------------------
-- Keys

unfoldable pub same_key : Key → List ℕ → ℕ → ℕ → Bool
same_key Sequence w i j = eqb (record_word w i 8) (record_word w j 8)
same_key Identity w i j = same_id (entry_at w i).id (entry_at w j).id

-- a pending record
abbrev pub Stop : List ℕ → ℕ → Type 0
Stop w i = record_word w i 7 ≡ 0 → ⊥

-- records i and j are not two stops of the same key
unfoldable pub apart : Key → List ℕ → ℕ → ℕ → Bool
apart key w i j = is_zero w i 7 || (is_zero w j 7 || not (same_key key w i j))

-- a test on 1 to m, the last first
unfoldable pub down_from : ℕ → (ℕ → Bool) → Bool
down_from zero P = true
down_from (suc m) P = P (suc m) && down_from m P

-- record i has a key that no stop before it has
unfoldable pub new_at : Key → List ℕ → ℕ → Bool
new_at key w i = down_from (i - 1) (λ j. apart key w j i)

unfoldable pub keys_differ : Key → List ℕ → ℕ → Bool
keys_differ key w n = every (new_at key w) (rising 1 n)

------------------------------------------------------------------------
-- Buckets

-- a prime, so that keys in even steps are spread
abbrev pub buckets : ℕ
buckets = 1021

unfoldable pub bucket_at : Key → List ℕ → ℕ → ℕ
bucket_at Sequence w i = record_word w i 8 % buckets
bucket_at Identity w i = (record_word w i 1 + record_word w i 2) % 2 ^ 64 % buckets

unfoldable pub in_bucket : Key → List ℕ → ℕ → ℕ → Bool
in_bucket key w h i = not (is_zero w i 7) && eqb (bucket_at key w i) h

-- the last of 1 to m that passes a test, or 0
unfoldable pub last_of : (ℕ → Bool) → ℕ → ℕ
last_of P zero = 0
last_of P (suc m) = cond (P (suc m)) (suc m) (last_of P m)

-- each of the stops of records 1 to m leads to the one before it in its bucket
abbrev pub Bucketed : Key → List ℕ → ℕ → List ℕ → Type 0
Bucketed key w m nexts = (j : ℕ) → 1 ≤ j → j ≤ m → Stop w j → get_or nexts j 0 ≡ last_of (in_bucket key w (bucket_at key w j)) (j - 1)
