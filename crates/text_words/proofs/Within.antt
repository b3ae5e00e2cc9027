-- A word lies within its line.
use Prim.Native.Nat.{ℕ, ◌+◌, ◌≤◌}
use mathlib.Core.Bool.{Bool, true, false}
use mathlib.Core.List.{List, [], ◌∷◌}
use mathlib.Core.Path.{◌≡◌, refl}
use native.Mathlib.Omega.{arith}
use lib.ListN.{length, drop, length-drop}
use Rattle.text_words.specs.Words.{run, separates, spells, word_start, word_end}

-- a run is no longer than what it is a part of
run_test : (p : ℕ → Bool) (b : ℕ) (l : List ℕ) (t : Bool) → p b ≡ t → run p l ≤ length l → run p (b ∷ l) ≤ length (b ∷ l)
unfolding run
run_test p b l true e h = rw e (omega arith)
run_test p b l false e h = rw e (omega arith)

run_short : (p : ℕ → Bool) (l : List ℕ) → run p l ≤ length l
unfolding run
run_short p [] = omega arith
run_short p (b ∷ l) = run_test p b l (p b) refl (run_short p l)

run-within : (p : ℕ → Bool) (l : List ℕ) (i : ℕ) → i ≤ length l → i + run p (drop i l) ≤ length l
run-within p l i h = omega (arith, run_short p (drop i l), length-drop i l)

pub start-within : (line : List ℕ) (at : ℕ) → at ≤ length line → word_start line at ≤ length line
unfolding word_start
start-within line at h = run-within separates line at h

pub end-within : (line : List ℕ) (at : ℕ) → at ≤ length line → word_end line at ≤ length line
unfolding word_end
end-within line at h = run-within spells line (word_start line at) (start-within line at h)

-- a word begins no earlier than it is looked for, and ends no earlier than it begins
pub word_order : (line : List ℕ) (at : ℕ) → (at ≤ word_start line at) × (word_start line at ≤ word_end line at)
unfolding word_start word_end
word_order line at = (omega arith, omega arith)
