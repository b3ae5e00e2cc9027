-- Laws of the pieces: a name up to its first zero byte, and its 32 bytes from four words.
use Prim.Native.Nat.{ℕ, ◌+◌, ◌≤◌, ◌<◌}
use mathlib.Core.Path.{◌≡◌, sym, ap, ◌∙◌}
use mathlib.Core.List.{List, [], ◌∷◌, ◌++◌, append-nil}
use native.Mathlib.Nat.{zero-add}
use native.Mathlib.Numerals.{add-one}
use native.Mathlib.Omega.{arith}
use borrow.Author.Tests.{eq-eqb, ne_eqb}
use lib.ListN.{length, drop, get_or, set, length-append, drop_of_length-le}
use lib.Seq.{sets, sets-eq, drop-cons, length-sets}
use Rattle.text_buffer.proofs.Digits.{digits_length}
use Rattle.text_buffer.proofs.Writing.{sets_append, Left, left_all, left_byte}
use Rattle.text_pieces.specs.Pieces.{bytes_of, until_zero}

-- the loop over a text up to a zero byte: its start, a turn, its two ends
pub until_start : (old text : List ℕ) (at : ℕ) → Left old at (until_zero text) old (at + 0) (until_zero (drop 0 text))
until_start old text at =
    let e : at + 0 ≡ at = omega arith in
    rw e (left_all old at (until_zero text))

pub until_turn : (old whole l m text : List ℕ) (at i : ℕ) → i < length text → (get_or text i 0 ≡ 0 → ⊥) → Left old at whole l (at + i) (until_zero (drop i text)) → m ≡ set l (at + i) (get_or text i 0)
    → Left old at whole m (at + (i + 1)) (until_zero (drop (i + 1) text))
unfolding until_zero
until_turn old whole l m text at i h ne left e =
    let d : until_zero (drop i text) ≡ get_or text i 0 ∷ until_zero (drop (i + 1) text) = rw (add-one, drop-cons text i 0 h, ne_eqb _ _ ne) in
    let j : at + (i + 1) ≡ (at + i) + 1 = omega arith in
    rw j (left_byte m (until_zero (drop (i + 1) text)) (get_or text i 0) left d e)

pub until_zero_lem : (text : List ℕ) (i : ℕ) → i < length text → get_or text i 0 ≡ 0 → until_zero (drop i text) ≡ []
unfolding until_zero
until_zero_lem text i h e = rw (drop-cons text i 0 h, eq-eqb _ _ e)

pub until_end : (text : List ℕ) (i : ℕ) → length text ≤ i → until_zero (drop i text) ≡ []
unfolding until_zero
until_end text i h = rw (drop_of_length-le text {i = i} h)

bytes_length : (n : ℕ) → length (bytes_of n) ≡ 8
unfolding bytes_of
bytes_length n = digits_length _ 256 8 n

sets_whole : (l text : List ℕ) → length text ≡ length l → sets l 0 text ≡ text
sets_whole l text e =
    sets-eq text l 0 (omega arith) ∙ ap (λ (rest : List ℕ). text ++ rest) (drop_of_length-le l {i = 0 + length text} (omega arith)) ∙ append-nil text

-- four words put one behind the other fill 32 bytes
pub words_fill : (l m n o p : List ℕ) (a b c d : ℕ) → 32 ≡ length l → m ≡ sets l 0 (bytes_of a) → n ≡ sets m 8 (bytes_of b) → o ≡ sets n 16 (bytes_of c) → p ≡ sets o 24 (bytes_of d)
    → p ≡ bytes_of a ++ bytes_of b ++ bytes_of c ++ bytes_of d
words_fill l m n o p a b c d long e f g h =
    let la : length (bytes_of a) ≡ 8 = bytes_length a in
    let lb : length (bytes_of a ++ bytes_of b) ≡ 16 = length-append (bytes_of a) (bytes_of b) ∙ rw (bytes_length a, bytes_length b) in
    let lc : length (bytes_of a ++ bytes_of b ++ bytes_of c) ≡ 24 = length-append (bytes_of a ++ bytes_of b) (bytes_of c) ∙ rw (lb, bytes_length c) in
    let ld : length (bytes_of a ++ bytes_of b ++ bytes_of c ++ bytes_of d) ≡ 32 = length-append (bytes_of a ++ bytes_of b ++ bytes_of c) (bytes_of d) ∙ rw (lc, bytes_length d) in
    let two : n ≡ sets l 0 (bytes_of a ++ bytes_of b) = f ∙ rw e (ap (λ (k : ℕ). sets (sets l 0 (bytes_of a)) k (bytes_of b)) (sym (zero-add _ ∙ la)) ∙ sets_append l 0 (bytes_of a) (bytes_of b)) in
    let three : o ≡ sets l 0 (bytes_of a ++ bytes_of b ++ bytes_of c) =
    g ∙ rw two (ap (λ (k : ℕ). sets (sets l 0 (bytes_of a ++ bytes_of b)) k (bytes_of c)) (sym (zero-add _ ∙ lb)) ∙ sets_append l 0 (bytes_of a ++ bytes_of b) (bytes_of c)) in
    let four : p ≡ sets l 0 (bytes_of a ++ bytes_of b ++ bytes_of c ++ bytes_of d) =
    h ∙ rw three (ap (λ (k : ℕ). sets (sets l 0 (bytes_of a ++ bytes_of b ++ bytes_of c)) k (bytes_of d)) (sym (zero-add _ ∙ lc)) ∙ sets_append l 0 (bytes_of a ++ bytes_of b ++ bytes_of c) (bytes_of d)) in
    four ∙ sets_whole l (bytes_of a ++ bytes_of b ++ bytes_of c ++ bytes_of d) (ld ∙ long)

pub words_long : (l m n o p : List ℕ) (a b c d : ℕ) → 32 ≡ length l → m ≡ sets l 0 (bytes_of a) → n ≡ sets m 8 (bytes_of b) → o ≡ sets n 16 (bytes_of c) → p ≡ sets o 24 (bytes_of d)
    → length p ≡ 32
words_long l m n o p a b c d long e f g h =
    ap length h ∙ length-sets o 24 (bytes_of d) ∙ ap length g ∙ length-sets n 16 (bytes_of c) ∙ ap length f ∙ length-sets m 8 (bytes_of b) ∙ ap length e
    ∙ length-sets l 0 (bytes_of a) ∙ sym long
