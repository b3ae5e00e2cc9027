-- Laws of the lines of a text: a byte more, the line feed, the end.
use Prim.Native.Nat.{ℕ, suc, ◌+◌, ◌-◌, ◌≤◌, ◌<◌}
use mathlib.Core.Path.{◌≡◌, refl, sym, ap, subst, ◌∙◌}
use mathlib.Core.Bool.{Bool, true, false, cond}
use mathlib.Core.List.{List, [], ◌∷◌}
use lib.Dec.{eqb, ltb}
use Rattle.std.specs.List.{position_or_len, position}
use Rattle.std.specs.Prelude.{Some, None}
use native.Mathlib.Omega.{arith}
use borrow.Author.Tests.{ltb-false}
use lib.ListN.{length, take, drop, get_or, drop_of_length-le, length-drop}
use lib.Seq.{take_all, drop-drop}
use Rattle.text_lines.specs.Lines.{onto, lines_of, between, line_at}

-- what the first line of a text is, where it ends at a place
first_line : List ℕ → ℕ → Type 0
first_line l n = lines_of l ≡ take n l ∷ lines_of (drop (suc n) l)

line_longer : (b n : ℕ) (l : List ℕ) → eqb b 10 ≡ false → first_line l n → first_line (b ∷ l) (suc n)
unfolding lines_of onto first_line
line_longer b n l e h = simp e (ap (onto b) h)

-- it ends at the first line feed, or with the text
feed-first : List ℕ → ℕ
feed-first l = position_or_len (λ b. eqb b 10) l

lines_first : (l : List ℕ) → 0 < length l → first_line l (feed-first l)
unfolding lines_of onto first_line feed-first
lines_first [] h = absurd (omega arith)
lines_first (b ∷ l) h = by_test (eqb b 10) refl l (lines_first l)
  where
    by_test : (t : Bool) → eqb b 10 ≡ t → (l : List ℕ) → (0 < length l → first_line l (feed-first l)) → first_line (b ∷ l) (feed-first (b ∷ l))
    by_test true e l rest = simp e
    by_test false e [] rest = simp e
    by_test false e (x ∷ l) rest =
        let n : suc (feed-first (x ∷ l)) ≡ feed-first (b ∷ x ∷ l) = simp e (omega arith) in
        subst (first_line (b ∷ x ∷ l)) n (line_longer b (feed-first (x ∷ l)) (x ∷ l) e (rest (omega arith)))

-- what a search for the line feed tells
found_at : (n m k : ℕ) → Some k ≡ cond (ltb n m) (Some n) None → k ≡ n
found_at n m k e = by_test (ltb n m) e
  where
    by_test : (t : Bool) → Some k ≡ cond t (Some n) None → k ≡ n
    by_test true e = cc
    by_test false e = absurd (cc)

found_none : (n m : ℕ) → None ≡ cond (ltb n m) (Some n) None → m ≤ n
found_none n m e = by_test (ltb n m) refl e
  where
    by_test : (t : Bool) → ltb n m ≡ t → None ≡ cond t (Some n) None → m ≤ n
    by_test true is e = absurd (cc)
    by_test false is e = ltb-false n m is

rest_of : (l : List ℕ) (at : ℕ) → take (length l - at) (drop at l) ≡ drop at l
rest_of l at = take_all (length l - at) (drop at l) (rw length-drop (omega arith))

pub line_feed : (text : List ℕ) (at k : ℕ) → at < length text → Some k ≡ position (λ b. eqb b 10) (take (length text - at) (drop at text))
    → lines_of (drop at text) ≡ between text at (at + k) ∷ lines_of (drop (at + k + 1) text)
unfolding first_line feed-first
line_feed text at k h found =
    let n : k ≡ feed-first (drop at text) = found_at _ _ _ (rw (rest_of text at) at found) in
    let line : first_line (drop at text) k = subst (first_line (drop at text)) (sym n) (lines_first (drop at text) (rw length-drop (omega arith))) in
    let one : (at + k) - at ≡ k = omega arith in
    let next : at + k + 1 ≡ at + suc k = omega arith in
    rw (one, next, ← drop-drop (suc k) at text) line

pub line_last : (text : List ℕ) (at : ℕ) → at < length text → None ≡ position (λ b. eqb b 10) (take (length text - at) (drop at text))
    → lines_of (drop at text) ≡ between text at (length text) ∷ lines_of (drop (length text) text)
unfolding first_line feed-first
line_last text at h found =
    let n : length (drop at text) ≤ feed-first (drop at text) = found_none _ _ (rw (rest_of text at) at found) in
    let line : first_line (drop at text) (feed-first (drop at text)) = lines_first (drop at text) (rw length-drop (omega arith)) in
    let whole : take (feed-first (drop at text)) (drop at text) ≡ drop at text = take_all _ _ n in
    let none : drop (suc (feed-first (drop at text))) (drop at text) ≡ [] = drop_of_length-le (drop at text) {i = suc (feed-first (drop at text))} (omega arith) in
    let end : drop (length text) text ≡ [] = drop_of_length-le text {i = length text} (omega arith) in
    rw (end, rest_of text at) (rw (whole, none) at line)

between_none : (text : List ℕ) (at : ℕ) → between text at at ≡ []
between_none text at =
    let e : at - at ≡ 0 = omega arith in
    rw e

-- the loop over lines: its start, and no line
pub line_start : (text : List ℕ) (k : ℕ) → get_or (lines_of (drop 0 text)) k [] ≡ line_at k text
unfolding line_at
line_start text k = refl

pub line_none : (text : List ℕ) (k at left : ℕ) → length text ≤ at → get_or (lines_of (drop at text)) left [] ≡ line_at k text → between text at at ≡ line_at k text
unfolding lines_of
line_none text k at left ge e = between_none text at ∙ sym (rw (drop_of_length-le text {i = at} ge)) ∙ e
