-- The keys of stops: a stop's key is that of none before it, record by record, is the test of all pairs.
use Prim.Native.Nat.{ℕ, zero, suc, ◌+◌, ◌-◌, ◌≤◌, ◌<◌}
use native.Mathlib.Omega.{arith}
use mathlib.Core.Path.{◌≡◌, refl, sym, ◌∙◌}
use mathlib.Core.Bool.{Bool, true, false, not, ◌&&◌, and-true, and-false}
use mathlib.Core.List.{List}
use borrow.Author.Tests.{eqb-true, eqb-false, eq-eqb, ne_eqb, not-true, ltb-true, ltb-false}
use borrow.Table.Steps.{cases}
use lib.Dec.{eqb, ltb}
use Rattle.pricelevel.proofs.Bools.{and_parts}
use Rattle.pricelevel.specs.Identity.{kind_number, same_id}
use Rattle.pricelevel.specs.declared.Id.{Id}
use Rattle.book.proofs.Differences.{SlotsDiffer, slots_differ_vacant, differs_parts, differs_of, all_differ_parts, all_differ_of}
use Rattle.book.proofs.Lists.{every_all, all-every}
use Rattle.book.specs.Lists.{rising}
use Rattle.book.specs.Words.{record_word, entry_at, slot_at, slots_at, all_differ}
use Rattle.form_check.specs.Check.{is_zero}
use Rattle.form_check.specs.Keys.{same_key, Stop, apart, down_from, new_at, keys_differ}
use Rattle.form_check.specs.declared.Key.{Key}
use Rattle.form_check.specs.declared.Key.TheVariants.{Sequence, Identity}
use Rattle.book.proofs.Slots.{slot_at_vacant, slot_at_held, slots_at_all, slots_at_each}
use Rattle.book.proofs.Tests.{bool_same, rising_at, rising_all}

------------------------------------------------------------------------
-- Two identities, from the last word to the kind

module _ (a b : Id) where
  pub same_id_low : (a.low ≡ b.low → ⊥) → same_id a b ≡ false
  unfolding same_id
  same_id_low n = rw (ne_eqb a.low b.low n, and-false (eqb a.high b.high), and-false)

  pub same_id_high : (a.high ≡ b.high → ⊥) → same_id a b ≡ false
  unfolding same_id
  same_id_high n = rw (ne_eqb a.high b.high n, and-false)

  pub same_id_kind : a.low ≡ b.low → a.high ≡ b.high → same_id a b ≡ eqb (kind_number a.kind) (kind_number b.kind)
  unfolding same_id
  same_id_kind e f = rw (eq-eqb a.high b.high f, eq-eqb a.low b.low e, and-true)

------------------------------------------------------------------------
-- Two records

module _ (key : Key) (w : List ℕ) (i j : ℕ) where
  pub apart_first : record_word w i 7 ≡ 0 → apart key w i j ≡ true
  unfolding apart is_zero
  apart_first e = rw (eq-eqb (record_word w i 7) 0 e)

  pub apart_stops : Stop w i → Stop w j → apart key w i j ≡ not (same_key key w i j)
  unfolding apart is_zero
  apart_stops f g = rw (ne_eqb (record_word w i 7) 0 f, ne_eqb (record_word w j 7) 0 g)

  pub apart_second : record_word w j 7 ≡ 0 → apart key w i j ≡ true
  unfolding apart is_zero
  apart_second e = cases (eqb (record_word w i 7) 0) (λ q. rw q) (λ q. rw (q, eq-eqb (record_word w j 7) 0 e))

-- by cases, whether a record is vacant
pub by_slot : (w : List ℕ) (i : ℕ) {X : Type 0} → (record_word w i 7 ≡ 0 → X) → (Stop w i → X) → X
by_slot w i f g = cases (eqb (record_word w i 7) 0) (λ e. f (eqb-true _ _ e)) (λ e. g (eqb-false _ _ e))

module _ (w : List ℕ) (i j : ℕ) where
  slots_apart : SlotsDiffer (slot_at w i) (slot_at w j) → (key : Key) → apart key w i j ≡ true
  unfolding same_key entry_at
  slots_apart d key = by_slot w i (apart_first key w i j)
      (λ f. by_slot w j (apart_second key w i j) (λ g. apart_stops key w i j f g ∙ told f g key))
    where
      told : Stop w i → Stop w j → (key : Key) → not (same_key key w i j) ≡ true
      told f g Sequence =
          let p = differs_parts (entry_at w i) (entry_at w j) (rw (slot_at_held w i f, slot_at_held w j g) at d) in
          rw (ne_eqb (record_word w i 8) (record_word w j 8) p.1)
      told f g Identity =
          let p = differs_parts (entry_at w i) (entry_at w j) (rw (slot_at_held w i f, slot_at_held w j g) at d) in
          rw p.0

  apart_slots : apart Sequence w i j ≡ true → apart Identity w i j ≡ true → SlotsDiffer (slot_at w i) (slot_at w j)
  unfolding same_key entry_at
  apart_slots s d = by_slot w i (λ e. rw (slot_at_vacant w i e) tt)
      (λ f. by_slot w j (λ e. rw (slot_at_vacant w j e) (slots_differ_vacant (slot_at w i)))
      (λ g. rw (slot_at_held w i f, slot_at_held w j g)
      (differs_of (entry_at w i) (entry_at w j) (not-true _ (sym (apart_stops Identity w i j f g) ∙ d))
      (eqb-false _ _ (not-true _ (sym (apart_stops Sequence w i j f g) ∙ s))))))

------------------------------------------------------------------------
-- All pairs

-- what holds of each record and each later one, of those from i to before m
abbrev Pairs : (ℕ → ℕ → Type 0) → ℕ → ℕ → Type 0
Pairs P i m = (a b : ℕ) → i ≤ a → a < b → b < m → P a b

all_differ_pairs : (w : List ℕ) (i k : ℕ) → all_differ (slots_at w i k) ≡ true
    → Pairs (λ a b. SlotsDiffer (slot_at w a) (slot_at w b)) i (i + k)
unfolding slots_at
all_differ_pairs w i zero e a b low less high = absurd (omega arith)
all_differ_pairs w i (suc k) e a b low less high =
    let p = all_differ_parts (slot_at w i) (slots_at w (suc i) k) e in
    cases (ltb i a) (λ q. all_differ_pairs w (suc i) k p.1 a b (omega (arith, ltb-true i a q)) less (omega arith))
    (λ q. let z : a ≡ i = omega (arith, ltb-false i a q) in
    rw z (slots_at_each (SlotsDiffer (slot_at w i)) w (suc i) k p.0 b (omega arith) (omega arith)))

pairs-all_differ : (w : List ℕ) (i k : ℕ) → Pairs (λ a b. SlotsDiffer (slot_at w a) (slot_at w b)) i (i + k)
    → all_differ (slots_at w i k) ≡ true
unfolding slots_at all_differ
pairs-all_differ w i zero h = refl
pairs-all_differ w i (suc k) h =
    all_differ_of (slot_at w i) (slots_at w (suc i) k)
    (slots_at_all (SlotsDiffer (slot_at w i)) w (suc i) k (λ j low high. h i j (omega arith) (omega arith) (omega arith)))
    (pairs-all_differ w (suc i) k (λ a b low less high. h a b (omega arith) less (omega arith)))

down_from_at : (P : ℕ → Bool) (m : ℕ) → down_from m P ≡ true → (j : ℕ) → 1 ≤ j → j ≤ m → P j ≡ true
unfolding down_from
down_from_at P zero e j low high = absurd (omega arith)
down_from_at P (suc m) e j low high =
    let p = and_parts (P (suc m)) (down_from m P) e in
    cases (ltb m j) (λ q. let z : j ≡ suc m = omega (arith, ltb-true m j q) in rw z p.0)
    (λ q. down_from_at P m p.1 j low (ltb-false m j q))

down_from_of : (P : ℕ → Bool) (m : ℕ) → ((j : ℕ) → 1 ≤ j → j ≤ m → P j ≡ true) → down_from m P ≡ true
unfolding down_from
down_from_of P zero h = refl
down_from_of P (suc m) h =
    rw (h (suc m) (omega arith) (omega arith), down_from_of P m (λ j low high. h j low (omega arith)))

-- a vacant record has no key
pub new_at_vacant : (key : Key) (w : List ℕ) (i : ℕ) → record_word w i 7 ≡ 0 → new_at key w i ≡ true
unfolding new_at
new_at_vacant key w i e = down_from_of (λ j. apart key w j i) (i - 1) (λ j low high. apart_second key w j i e)

module _ (key : Key) (w : List ℕ) (n : ℕ) where
  keys_pairs : keys_differ key w n ≡ true → Pairs (λ a b. apart key w a b ≡ true) 1 (1 + n)
  unfolding keys_differ new_at
  keys_pairs e a b low less high =
      let new = rising_at (λ j. new_at key w j ≡ true) 1 n (every_all (new_at key w) (rising 1 n) e) b
      (omega arith) high in
      down_from_at (λ x. apart key w x b) (b - 1) new a low (omega arith)

  pairs_keys : Pairs (λ a b. apart key w a b ≡ true) 1 (1 + n) → keys_differ key w n ≡ true
  unfolding keys_differ new_at
  pairs_keys h =
      all-every (new_at key w) (rising 1 n)
      (rising_all (λ j. new_at key w j ≡ true) 1 n
      (λ j low high. down_from_of (λ x. apart key w x j) (j - 1) (λ x least most. h x j least (omega arith) high)))

-- the pairs are tested key by key
pub all_differ_keys : (w : List ℕ) (n : ℕ)
    → (keys_differ Sequence w n && keys_differ Identity w n) ≡ all_differ (slots_at w 1 n)
all_differ_keys w n =
    bool_same _ _
    (λ e.
    let p = and_parts (keys_differ Sequence w n) (keys_differ Identity w n) e in
    let s = keys_pairs Sequence w n p.0 in
    let d = keys_pairs Identity w n p.1 in
    pairs-all_differ w 1 n (λ a b low less high. apart_slots w a b (s a b low less high) (d a b low less high)))
    (λ e. rw (back e Sequence, back e Identity))
  where
    back : all_differ (slots_at w 1 n) ≡ true → (key : Key) → keys_differ key w n ≡ true
    back e key = pairs_keys key w n
        (λ a b low less high. slots_apart w a b (all_differ_pairs w 1 n e a b low less high) key)
