-- Laws of the writers: texts one behind the other, the last byte first, what stays.
use Prim.Native.Nat.{ℕ, suc, ◌+◌, ◌≤◌, ◌<◌}
use mathlib.Core.Path.{◌≡◌, refl, sym, ap, ◌∙◌}
use mathlib.Core.List.{List, [], ◌∷◌, ◌++◌}
use native.Mathlib.Numerals.{add-one}
use native.Mathlib.Omega.{arith}
use lib.ListN.{length, take, drop, get_or, set, length-append}
use lib.Seq.{sets, sets-eq, length-sets, take-suc, take-set-le, length-take-le, set_comm}
use Rattle.text_buffer.specs.Writing.{Put}

-- two texts, one behind the other, are one
pub sets_append : (l : List ℕ) (at : ℕ) (a b : List ℕ) → sets (sets l at a) (at + length a) b ≡ sets l at (a ++ b)
sets_append l at [] b = ap (λ (k : ℕ). sets l k b) (omega arith)
sets_append l at (x ∷ a) b =
    let e : at + suc (length a) ≡ suc at + length a = omega arith in
    ap (λ (k : ℕ). sets (sets (set l at x) (suc at) a) k b) e ∙ sets_append (set l at x) (suc at) a b

pub put_none : (l : List ℕ) (at : ℕ) → Put l at [] l at
put_none l at = record { bytes = refl; place = omega arith }

pub put_then : {l : List ℕ} {at : ℕ} {a m : List ℕ} {next : ℕ} {b n : List ℕ} {last : ℕ} → Put l at a m next → Put m next b n last → Put l at (a ++ b) n last
put_then {l} {at} {a} {m} {next} {b} {n} {last} p q =
    record {
      bytes = q.bytes ∙ rw (p.bytes, p.place) (sets_append l at a b);
      place = rw (length-append a b) (omega (arith, p.place, q.place));
    }

-- a turn of the loop over a text
pub put_turn : (l : List ℕ) (at : ℕ) (text m n : List ℕ) (i : ℕ) → i < length text → m ≡ sets l at (take i text) → n ≡ set m (at + i) (get_or text i 0)
    → n ≡ sets l at (take (i + 1) text)
put_turn l at text m n i h e f =
    let k : length (take i text) ≡ i = length-take-le i text (omega arith) in
    f ∙ rw e (rw (add-one, take-suc text i 0 h)
    (ap (λ (j : ℕ). set (sets l at (take i text)) (at + j) (get_or text i 0)) (sym k) ∙ sets_append l at (take i text) (get_or text i 0 ∷ [])))

-- where there is room: what lies before, the text, what lies behind
pub put_fits : {old : List ℕ} {at : ℕ} {text new : List ℕ} {next : ℕ} → Put old at text new next → next ≤ length old → new ≡ take at old ++ text ++ drop next old
put_fits {old} {at} {text} {new} {next} p h =
    rw p.place (p.bytes ∙ sets-eq text old at (omega (arith, p.place)))

take_sets : (n : ℕ) (l : List ℕ) (at : ℕ) (vs : List ℕ) → n ≤ at → take n (sets l at vs) ≡ take n l
take_sets n l at [] h = refl
take_sets n l at (v ∷ vs) h = take_sets n (set l at v) (suc at) vs (omega arith) ∙ take-set-le n l at v h

-- room or not: what lies before stays
pub put-before : {old : List ℕ} {at : ℕ} {text new : List ℕ} {next : ℕ} → Put old at text new next → take at new ≡ take at old
put-before {old} {at} {text} {new} {next} p = rw p.bytes (take_sets at old at text (omega arith))

-- a buffer keeps its length
pub put_length : {old : List ℕ} {at : ℕ} {text new : List ℕ} {next : ℕ} → Put old at text new next → length new ≡ length old
put_length {old} {at} {text} {new} {next} p = ap length p.bytes ∙ length-sets old at text

-- the last byte put first, and the others before it
pub sets_first : (l : List ℕ) (at : ℕ) (a : List ℕ) (x : ℕ) → sets (set l (at + length a) x) at a ≡ sets l at (a ++ (x ∷ []))
sets_first l at [] x = ap (λ (k : ℕ). set l k x) (omega arith)
sets_first l at (y ∷ a) x =
    let e : at + suc (length a) ≡ suc at + length a = omega arith in
    ap (λ (m : List ℕ). sets m (suc at) a) (set_comm l (at + suc (length a)) at x y (λ z. omega arith) ∙ ap (λ (k : ℕ). set (set l at y) k x) e)
    ∙ sets_first (set l at y) (suc at) a x

-- What is left to put of a text: put from `next` on, it completes what was put from `at` on.
pub record Left (old : List ℕ) (at : ℕ) (text new : List ℕ) (next : ℕ) (left : List ℕ) : Type 0 where
  pub bytes : sets new next left ≡ sets old at text
  pub place : next + length left ≡ at + length text

pub left_all : (old : List ℕ) (at : ℕ) (text : List ℕ) → Left old at text old at text
left_all old at text = record { bytes = refl; place = refl }

-- a byte more, a piece more, the end
pub left_byte : {old : List ℕ} {at : ℕ} {text new : List ℕ} {next : ℕ} {left : List ℕ} (m rest : List ℕ) (b : ℕ) → Left old at text new next left → left ≡ b ∷ rest → m ≡ set new next b
    → Left old at text m (next + 1) rest
left_byte {old} {at} {text} {new} {next} {left} m rest b p is put =
    record {
      bytes = rw (put, add-one) (rw is at p.bytes);
      place = omega (arith, p.place, ap length is);
    }

pub left_piece : {old : List ℕ} {at : ℕ} {text new : List ℕ} {next : ℕ} {left m : List ℕ} {last : ℕ} (piece rest : List ℕ) → Left old at text new next left → left ≡ piece ++ rest
    → Put new next piece m last → Left old at text m last rest
left_piece {old} {at} {text} {new} {next} {left} {m} {last} piece rest p is put =
    record {
      bytes = rw (put.bytes, put.place) (sets_append new next piece rest ∙ rw is at p.bytes);
      place = omega (arith, p.place, put.place, ap length is, length-append piece rest);
    }

pub left_none : {old : List ℕ} {at : ℕ} {text new : List ℕ} {next : ℕ} {left : List ℕ} → Left old at text new next left → left ≡ [] → Put old at text new next
left_none {old} {at} {text} {new} {next} {left} p is = record { bytes = rw is at p.bytes; place = omega (arith, p.place, ap length is) }

-- a byte behind a text
pub put_then_byte : {old : List ℕ} {at : ℕ} {text new : List ℕ} {next : ℕ} (m : List ℕ) (b : ℕ) → Put old at text new next → m ≡ set new next b → Put old at (text ++ (b ∷ [])) m (next + 1)
put_then_byte {old} {at} {text} {new} {next} m b p e = put_then p (record { bytes = e; place = refl })
