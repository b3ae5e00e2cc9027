-- The words of a line: where the next one begins and where it ends; texts that are the same but for the case of their letters.
use Rattle.std.specs.Prelude.{ℕ, zero, suc, ◌+◌, ◌-◌, Bool, true, false, cond, not, List, [], ◌∷◌, eqb, leb, take, drop}

-- what separates words: space, tab, comma, semicolon, carriage return
unfoldable pub separates : ℕ → Bool
separates b =
    cond (eqb b 32) true (cond (eqb b 9) true (cond (eqb b 44) true (cond (eqb b 59) true (cond (eqb b 13) true false))))

-- what a word is made of: neither a separator nor the '#' that begins a comment
unfoldable pub spells : ℕ → Bool
spells b = cond (eqb b 35) false (not (separates b))

-- how many bytes at the beginning are as p says
unfoldable pub run : (ℕ → Bool) → List ℕ → ℕ
run p [] = zero
run p (b ∷ l) = cond (p b) (suc (run p l)) zero

-- where the next word begins and ends; the two are one place where there is none
unfoldable pub word_start : List ℕ → ℕ → ℕ
word_start line at = at + run separates (drop at line)

unfoldable pub word_end : List ℕ → ℕ → ℕ
word_end line at = word_start line at + run spells (drop (word_start line at) line)

-- the bytes between two places
abbrev pub between : List ℕ → ℕ → ℕ → List ℕ
between line start end = take (end - start) (drop start line)

-- a letter from A to Z as the small one
unfoldable pub folded : ℕ → ℕ
folded b = cond (leb 65 b) (cond (leb b 90) (b + 32) b) b

-- whether two texts are the same, but for the case of their letters
unfoldable pub same_text : List ℕ → List ℕ → Bool
same_text [] [] = true
same_text [] (b ∷ m) = false
same_text (a ∷ l) [] = false
same_text (a ∷ l) (b ∷ m) = cond (eqb (folded a) (folded b)) (same_text l m) false
