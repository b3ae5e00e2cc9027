-- Laws of bytes as words: one turn of the loop, its end, and where a holder's step goes on.
use Prim.Native.Nat.{ℕ, zero, suc, ◌+◌, ◌-◌, ◌*◌, ◌%◌, ◌≤◌, ◌<◌}
use mathlib.Core.Path.{◌≡◌, refl}
use mathlib.Core.List.{List}
use native.Mathlib.Omega.{arith}
use lib.Dec.{eqb, leb}
use lib.ListN.{get_or}
use Rattle.text_words.specs.Words.{between}
use Rattle.text_numbers.proofs.Digits.{cond_next}
use Rattle.text_numbers.specs.Steps.{bad}
use Rattle.text_numbers.specs.declared.Step.{Step}
use Rattle.text_holders.specs.Holders.{packed, holder_between, of_holder, too_long}

pub packed_turn : (left : ℕ) (text : List ℕ) (at v : ℕ) → 0 < left → packed left text at v ≡ packed (left - 1) text (at + 1) (v % 72057594037927936 * 256 + get_or text at 0)
unfolding packed
packed_turn zero text at v h = absurd (omega arith)
packed_turn (suc k) text at v h =
    let one : suc k - 1 ≡ k = omega arith in
    rw one

pub packed_end : (left : ℕ) (text : List ℕ) (at v : ℕ) → left ≤ 0 → packed left text at v ≡ v
unfolding packed
packed_end zero text at v h = refl
packed_end (suc k) text at v h = absurd (omega arith)

holder_next : (none : Step) (line : List ℕ) (s e : ℕ) → none.next ≡ e → (holder_between none line s e).next ≡ e
unfolding holder_between
holder_next none line s e h =
    cond_next (eqb s e) none _ e h (cond_next (leb (e - s) 32) (of_holder (between line s e) e) (bad too_long (s + 1) e) e refl refl)

pub holder-within : (none r : Step) (line : List ℕ) (s e n : ℕ) → r ≡ holder_between none line s e → none.next ≡ e → e ≤ n → r.next ≤ n
holder-within none r line s e n h g k =
    rw (h, holder_next none line s e g) k
