-- What a record is read as: by its quantity, its side and its kind.
use Rattle.book.specs.Sizes.{record_length}
use Prim.Native.Nat.{ℕ, zero, suc, ◌+◌, ◌-◌, ◌≤◌, ◌<◌, ◌^◌}
use native.Mathlib.Omega.{arith}
use native.Mathlib.Nat.{add-zero, add-suc, suc-add}
use mathlib.Core.Path.{◌≡◌, refl}
use mathlib.Core.Bool.{Bool, true, false, cond}
use mathlib.Core.List.{List}
use borrow.Author.Tests.{eq-eqb, ne_eqb, ltb-true, ltb-false}
use borrow.Table.Steps.{cases}
use lib.Dec.{eqb, ltb}
use lib.ListN.{get_or}
use Rattle.pricelevel.specs.Identity.{kind_number}
use Rattle.pricelevel.specs.Side.{side_number}
use Rattle.pricelevel.specs.declared.IdKind.TheVariants.{Uuid, Ulid, Sequential}
use Rattle.pricelevel.specs.declared.Side.TheVariants.{Buy, Sell}
use Rattle.book.specs.Lists.{All}
use Rattle.book.specs.Valid.{SlotFits}
use Rattle.book.specs.Book.{Slot, vacant, held}
use Rattle.book.specs.Words.{record_word, kind_of, side_from, entry_at, slot_at, slots_at}
use Rattle.book.specs.declared.StopEntry.{StopEntry}
use Rattle.pricelevel.specs.declared.IdKind.{IdKind}
use Rattle.pricelevel.specs.declared.Side.{Side}

pub slot_at_vacant : (w : List ℕ) (i : ℕ) → record_word w i 7 ≡ 0 → slot_at w i ≡ vacant
unfolding slot_at
slot_at_vacant w i e = rw (eq-eqb (record_word w i 7) 0 e)

pub slot_at_held : (w : List ℕ) (i : ℕ) → (record_word w i 7 ≡ 0 → ⊥) → slot_at w i ≡ held (entry_at w i)
unfolding slot_at
slot_at_held w i n = rw (ne_eqb (record_word w i 7) 0 n)

pub side_from_buy : (d : ℕ) → d ≡ 0 → side_from d ≡ Buy
unfolding side_from
side_from_buy d e = rw e

pub side_from_sell : (d : ℕ) → (d ≡ 0 → ⊥) → side_from d ≡ Sell
unfolding side_from
side_from_sell zero n = absurd (n refl)
side_from_sell (suc d) n = refl

-- a known side's word is its number
pub side_number_from : (d : ℕ) → d ≤ 1 → side_number (side_from d) ≡ d
unfolding side_from
side_number_from zero h = refl
side_number_from (suc zero) h = refl
side_number_from (suc (suc d)) h = absurd (omega arith)

-- a known kind's word is its number, and any other word stands for the last kind
pub kind_number_of : (k : ℕ) → k ≤ 2 → kind_number (kind_of k) ≡ k
unfolding kind_of
kind_number_of zero h = refl
kind_number_of (suc zero) h = refl
kind_number_of (suc (suc zero)) h = refl
kind_number_of (suc (suc (suc k))) h = absurd (omega arith)

pub kind_number_last : (k : ℕ) → 2 < k → kind_number (kind_of k) ≡ 2
unfolding kind_of
kind_number_last zero h = absurd (omega arith)
kind_number_last (suc zero) h = absurd (omega arith)
kind_number_last (suc (suc k)) h = refl

pub kind_number_most : (k : IdKind) → kind_number k ≤ 2
kind_number_most Uuid = omega arith
kind_number_most Ulid = omega arith
kind_number_most Sequential = omega arith

pub side_number_most : (s : Side) → side_number s ≤ 1
side_number_most Buy = omega arith
side_number_most Sell = omega arith

-- what a pending record is read as stands in its words
pub slot_at_entry : (w : List ℕ) (i : ℕ) (t : StopEntry) → slot_at w i ≡ held t → entry_at w i ≡ t
unfolding slot_at
slot_at_entry w i t e = cases (eqb (record_word w i 7) 0)
    (λ q. let v : vacant ≡ held t = rw q at e in let z : ◌≡◌ {A = ℕ} 0 1 = cc in absurd (omega arith))
    (λ q. let h : held (entry_at w i) ≡ held t = rw q at e in cc)

------------------------------------------------------------------------
-- Records in a row

pub slots_at_at : (w : List ℕ) (i k m : ℕ) → m < k → get_or (slots_at w i k) m vacant ≡ slot_at w (i + m)
unfolding slots_at
slots_at_at w i zero m h = absurd (omega arith)
slots_at_at w i (suc k) zero h = rw add-zero
slots_at_at w i (suc k) (suc m) h = rw (add-suc i m, ← suc-add i m) (slots_at_at w (suc i) k m (omega arith))

-- record i of n
pub slots_at_record : (w : List ℕ) (n i : ℕ) → 1 ≤ i → i ≤ n → get_or (slots_at w 1 n) (i - 1) vacant ≡ slot_at w i
slots_at_record w n i low high = let e : 1 + (i - 1) ≡ i =
    omega arith in rw e at (slots_at_at w 1 n (i - 1) (omega arith))

pub slots_at_all : (P : Slot → Type 0) (w : List ℕ) (i k : ℕ) → ((j : ℕ) → i ≤ j → j < i + k → P (slot_at w j))
    → All P (slots_at w i k)
unfolding slots_at
slots_at_all P w i zero h = tt
slots_at_all P w i (suc k) h =
    (h i (omega arith) (omega arith), slots_at_all P w (suc i) k (λ j low high. h j (omega arith) (omega arith)))

pub slots_at_each : (P : Slot → Type 0) (w : List ℕ) (i k : ℕ) → All P (slots_at w i k) → (j : ℕ) → i ≤ j → j < i + k
    → P (slot_at w j)
unfolding slots_at
slots_at_each P w i zero h j low high = absurd (omega arith)
slots_at_each P w i (suc k) h j low high = cases (ltb i j)
    (λ e. slots_at_each P w (suc i) k h.1 j (omega (arith, ltb-true i j e)) (omega arith))
    (λ e. let q : j ≡ i = omega (arith, ltb-false i j e) in rw q h.0)

-- the numbers of a record that is read from words are words
pub slot_at_fits : (w : List ℕ) (i : ℕ) → ((k : ℕ) → k < record_length → record_word w i k < 2 ^ 64)
    → SlotFits (slot_at w i)
unfolding slot_at entry_at
slot_at_fits w i word = go (eqb (record_word w i 7) 0)
  where
    go : (t : Bool) → SlotFits (cond t vacant (held (entry_at w i)))
    go true = tt
    go false = record {
      high = word 1 (omega arith);
      low = word 2 (omega arith);
      stop = word 4 (omega arith);
      watermark = word 5 (omega arith);
      trail = word 6 (omega arith);
      quantity = word 7 (omega arith);
      seq = word 8 (omega arith);
      holder = record {
        first = word 11 (omega arith);
        second = word 12 (omega arith);
        third = word 13 (omega arith);
        fourth = word 14 (omega arith);
      };
    }
